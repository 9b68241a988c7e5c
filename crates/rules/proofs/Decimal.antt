-- A number that is written in decimal is read as itself. Assumes nothing.
use Rattle.std.proofs.Common.{ℕ, zero, suc, ◌+◌, ◌/◌, ◌%◌, ◌≤◌, ◌<◌, ◌≡◌, ap, ◌∙◌, true, List, [], ◌∷◌, arith, ltb-true, ltb-false, le-leb, ne_eqb, ltb}
use Rattle.std.proofs.Math.Option.{some}
use Rattle.meaning.proofs.Truth.{bool_cases, both_and}
use Rattle.rules.specs.Text.{is_digit, digits, positive, plus, minus, signed, same_bytes, token}
use Rattle.rules.specs.Written.{decimal_onto, decimal}
use Rattle.rules.proofs.Words.{digit_range, digit_not_blank, NoBlank}

-- One digit.

digit_of : (n : ℕ) → n < 10 → is_digit (48 + n) ≡ true
unfolding is_digit
digit_of n h = both_and _ _ (le-leb 48 (48 + n) (omega arith)) (le-leb (48 + n) 57 (omega arith))

-- Reading what was written in front of `rest` is going on with `rest` from that number.
onto_value : (most n : ℕ) (rest : List ℕ) → n < most → digits 0 (decimal_onto most n rest) ≡ digits n rest
unfolding decimal_onto digits
onto_value zero n rest h = absurd (omega arith)
onto_value (suc most) n rest h =
    bool_cases (ltb n 10)
    (λ y. rw (y, decimal_onto, digit_of n (ltb-true n 10 y), digits) (ap (λ (k : ℕ). digits k rest) (omega arith)))
    (λ m. rw (m, decimal_onto) (onto_value most (n / 10) ((48 + n % 10) ∷ rest) (omega (arith, ltb-false n 10 m)) ∙ last))
  where
    last : digits (n / 10) ((48 + n % 10) ∷ rest) ≡ digits n rest
    last = rw (digit_of (n % 10) (omega arith), digits) (ap (λ (k : ℕ). digits k rest) (omega arith))

-- All bytes are digits, also of what is written in front of digits.
abbrev pub AllDigits : List ℕ → Type 0
AllDigits [] = Unit {0}
AllDigits (b ∷ w) = (is_digit b ≡ true) × AllDigits w

onto_digits : (most n : ℕ) (rest : List ℕ) → AllDigits rest → AllDigits (decimal_onto most n rest)
unfolding decimal_onto
onto_digits zero n rest h = h
onto_digits (suc most) n rest h =
    bool_cases (ltb n 10)
    (λ y. rw (y, decimal_onto) (digit_of n (ltb-true n 10 y), h))
    (λ m. rw (m, decimal_onto) (onto_digits most (n / 10) ((48 + n % 10) ∷ rest) (digit_of (n % 10) (omega arith), h)))

-- The first digit, and that it is not 0 unless the number is.
pub record Begins (n : ℕ) (s : List ℕ) : Type 0 where
  pub first : ℕ
  pub others : List ℕ
  pub is : s ≡ first ∷ others
  pub above_0 : 1 ≤ n → 49 ≤ first

onto_begins : (most n : ℕ) (rest : List ℕ) → n < most → Begins n (decimal_onto most n rest)
unfolding decimal_onto
onto_begins zero n rest h = absurd (omega arith)
onto_begins (suc most) n rest h =
    bool_cases (ltb n 10)
    (λ y. record { first = 48 + n; others = rest; is = rw (y, decimal_onto); above_0 = λ p. omega arith })
    (λ m. let b = onto_begins most (n / 10) ((48 + n % 10) ∷ rest) (omega (arith, ltb-false n 10 m)) in
    record { first = b.first; others = b.others; is = rw (m, decimal_onto) b.is; above_0 = λ p. b.above_0 (omega (arith, ltb-false n 10 m)) })

pub decimal_begins : (n : ℕ) → Begins n (decimal n)
unfolding decimal
decimal_begins n = onto_begins (suc n) n [] (omega arith)

pub decimal-digits : (n : ℕ) → AllDigits (decimal n)
unfolding decimal
decimal-digits n = onto_digits (suc n) n [] tt

pub digits_no_blank : (w : List ℕ) → AllDigits w → NoBlank w
digits_no_blank [] h = tt
digits_no_blank (b ∷ w) h = (digit_not_blank b h.0, digits_no_blank w h.1)

-- Reading back.

decimal_value : (n : ℕ) → digits 0 (decimal n) ≡ some n
unfolding decimal digits
decimal_value n = onto_value (suc n) n [] (omega arith)

pub positive-decimal : (n : ℕ) → 1 ≤ n → positive (decimal n) ≡ some n
unfolding positive
positive-decimal n h =
    let b = decimal_begins n in
    let f = b.above_0 h in
    rw (b.is, ne_eqb b.first 48 (λ q. omega arith), positive) (rw (← b.is) (decimal_value n))

pub token_minus : (n : ℕ) → 1 ≤ n → token (45 ∷ decimal n) ≡ minus n
unfolding token signed same_bytes
token_minus n h = rw (positive-decimal n h, signed)

pub token-plus : (n : ℕ) → 1 ≤ n → token (decimal n) ≡ plus n
unfolding token signed same_bytes
token-plus n h = go (decimal_begins n) (decimal-digits n) (positive-decimal n h)
  where
    go : Begins n (decimal n) → AllDigits (decimal n) → positive (decimal n) ≡ some n → token (decimal n) ≡ plus n
    go b d p =
        let e : decimal n ≡ b.first ∷ b.others = b.is in
        let low : 49 ≤ b.first = b.above_0 h in
        let high : AllDigits (b.first ∷ b.others) = (rw e at d) in
        let range = digit_range b.first high.0 in
        let value : positive (b.first ∷ b.others) ≡ some n = (rw e at p) in
        rw e (rw (ne_eqb b.first 48 (λ q. omega arith), ne_eqb b.first 100 (λ q. omega arith), ne_eqb b.first 45 (λ q. omega arith), token, value, signed))
