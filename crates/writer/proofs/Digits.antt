-- The decimal digits of a number, one at a time, from the last one on. Assumes nothing.
use Rattle.std.proofs.Common.{ℕ, zero, suc, ◌+◌, ◌*◌, ◌/◌, ◌%◌, ◌≤◌, ◌<◌, ◌^◌, ◌≡◌, List, [], ◌∷◌, ◌++◌, ltb, length}
use Rattle.std.proofs.Common.{refl, sym, ap, ◌∙◌, arith, pow-suc, ltb-true, ltb-false, lt-ltb, le-ltb, length-append}
use Rattle.meaning.proofs.Truth.{bool_cases}
use Rattle.rules.specs.Written.{decimal_onto, decimal}
use Rattle.writer.specs.Text.{Sized}

-- How many digits there may be at most makes no difference, as long as it is more than the number.
pub onto_most : (a b n : ℕ) (rest : List ℕ) → n < a → n < b → decimal_onto a n rest ≡ decimal_onto b n rest
unfolding decimal_onto
onto_most zero b n rest h k = absurd (omega arith)
onto_most (suc a) zero n rest h k = absurd (omega arith)
onto_most (suc a) (suc b) n rest h k =
    bool_cases (ltb n 10)
    (λ y. rw (y, decimal_onto))
    (λ m. rw (m, decimal_onto) (onto_most a b (n / 10) ((48 + n % 10) ∷ rest) (omega (arith, ltb-false n 10 m)) (omega (arith, ltb-false n 10 m))))

-- What stands behind the digits stays behind them.
onto_append : (most n : ℕ) (first rest : List ℕ) → decimal_onto most n (first ++ rest) ≡ decimal_onto most n first ++ rest
unfolding decimal_onto
onto_append zero n first rest = refl
onto_append (suc most) n first rest =
    bool_cases (ltb n 10)
    (λ y. rw (y, decimal_onto))
    (λ m. rw (m, decimal_onto) (onto_append most (n / 10) ((48 + n % 10) ∷ first) rest))

pub decimal_small : (n : ℕ) → n < 10 → decimal n ≡ (48 + n) ∷ []
unfolding decimal
decimal_small n h = rw (lt-ltb n 10 h, decimal_onto)

pub decimal_large : (n : ℕ) → 10 ≤ n → decimal n ≡ decimal (n / 10) ++ ((48 + n % 10) ∷ [])
unfolding decimal
decimal_large n h =
    rw (le-ltb n 10 h, decimal_onto)
    (onto_most n (suc (n / 10)) (n / 10) ((48 + n % 10) ∷ []) (omega arith) (omega arith)
    ∙ onto_append (suc (n / 10)) (n / 10) [] ((48 + n % 10) ∷ []))

pub length_small : (n : ℕ) → n < 10 → length (decimal n) ≡ 1
length_small n h = ap length (decimal_small n h)

pub length_large : (n : ℕ) → 10 ≤ n → length (decimal n) ≡ length (decimal (n / 10)) + 1
length_large n h = ap length (decimal_large n h) ∙ simp length-append

pub decimal-some : (n : ℕ) → 1 ≤ length (decimal n)
decimal-some n =
    bool_cases (ltb n 10)
    (λ y. omega (arith, length_small n (ltb-true n 10 y)))
    (λ m. omega (arith, length_large n (ltb-false n 10 m)))

-- A number below a power of ten has no more digits than the power says.
length-below : (d n : ℕ) → n < 10 ^ suc d → length (decimal n) ≤ suc d
length-below zero n h = omega (arith, length_small n (omega arith))
length-below (suc d) n h =
    bool_cases (ltb n 10)
    (λ y. omega (arith, length_small n (ltb-true n 10 y)))
    (λ m. omega (arith, length_large n (ltb-false n 10 m), length-below d (n / 10) (omega (arith, pow-suc 10 (suc d)))))

-- And a number that is not below a power of ten has more.
length-above : (d n : ℕ) → 10 ^ d ≤ n → suc d ≤ length (decimal n)
length-above zero n h = decimal-some n
length-above (suc d) n h =
    let large : 10 ≤ n = omega (arith, pow-suc 10 d, power-some d) in
    omega (arith, length_large n large, length-above d (n / 10) (omega (arith, pow-suc 10 d)))
  where
    power-some : (d : ℕ) → 1 ≤ 10 ^ d
    power-some zero = omega arith
    power-some (suc d) = omega (arith, pow-suc 10 d, power-some d)

pub sized_tens : (v tens : ℕ) → 10 ^ tens ≤ v → v < 10 * 10 ^ tens → tens < 20 → Sized (decimal v) (tens + 1) 20
sized_tens v tens h l few =
    let above = length-above tens v h in
    let below = length-below tens v (omega (arith, pow-suc 10 tens)) in
    record { is = omega arith; some = omega arith; few = omega arith }

pub sized_small : (v : ℕ) → v < 10 → Sized (decimal v) 1 20
sized_small v h = record { is = sym (length_small v h); some = omega arith; few = omega arith }
