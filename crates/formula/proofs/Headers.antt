-- The line `p cnf V C`: its prefix, and a whole slice as a number. Assumes nothing.
use Rattle.std.proofs.Math.Seq.{take-length}
use Rattle.std.proofs.Common.{ℕ, suc, ◌+◌, ◌*◌, ◌-◌, ◌<◌, ◌≡◌, true, false, List, [], ◌∷◌, eqb, leb, length, take, drop, get_or}
use Rattle.std.proofs.Common.{refl, sym, ap, ◌∙◌, arith, eq-eqb, ne_eqb, eqb-true, leb-true}
use borrow.Author.Tests.{eqb-false}
use Rattle.std.proofs.Math.Option.{Option, none, some}
use lib.Pointwise.{pointwise}
use Rattle.meaning.proofs.Truth.{bool_cases, and_both, clash}
use Rattle.rules.specs.Tools.{bytes, only}
use Rattle.rules.specs.Limits.{max_variable, max_clauses}
use Rattle.rules.specs.Text.{is_blank, is_digit, digits, positive, Token, nought, plus, minus, letter_d, other, signed, same_bytes, token, word}
use Rattle.rules.specs.Formula.{after_prefix, behind, count, header}
use Rattle.rules.proofs.Options.{none-some, option_cases}
use Rattle.rules.proofs.Words.{digit_not_blank}
use Rattle.text.specs.Scan.{most, blanks, capped, token_of, Scans}
use Rattle.text.specs.declared.Token.{Token as Found}
use Rattle.text.proofs.Tokens.{capped_test, capped_same}
use Rattle.clauses.proofs.Parts.{part_rest}
use Rattle.std.specs.Prelude.{Some, None}
use Rattle.formula.specs.Opening.{FirstOf, Behind, counted, count_of, header_of}

-- A token as a number

counted-capped : (limit : ℕ) → limit < most → (t : Token) → counted limit (capped t) ≡ count_of (count limit t)
unfolding count
counted-capped limit h nought = refl
counted-capped limit h (plus n) =
    bool_cases (leb n limit)
    (λ y. rw (counted, capped_test limit n h, y) (ap Some (capped_same limit n h (let q = leb-true n limit y in omega arith))))
    (λ f. rw (counted, capped_test limit n h, f))
counted-capped limit h (minus n) = refl
counted-capped limit h letter_d = refl
counted-capped limit h other = refl

-- A number has no blank in it, so that its word is all of it.

digits_whole : (n : ℕ) (s : List ℕ) (m : ℕ) → digits n s ≡ some m → word s ≡ s
unfolding digits word
digits_whole n [] m e = refl
digits_whole n (b ∷ s) m e =
    bool_cases (is_digit b)
    (λ y. rw (digit_not_blank b y, word) (ap (λ (r : List ℕ). b ∷ r) (digits_whole (n * 10 + (b - 48)) s m (rw (y, digits) at e))))
    (λ f. none-some (rw (f, digits) at e))

positive_whole : (s : List ℕ) (m : ℕ) → positive s ≡ some m → word s ≡ s
unfolding positive
positive_whole [] m e = none-some e
positive_whole (b ∷ s) m e =
    bool_cases (eqb b 48)
    (λ y. none-some (rw (y, positive) at e))
    (λ f. digits_whole 0 (b ∷ s) m (rw (f, positive) at e))

abbrev WholeNumber : Token → List ℕ → Type 0
WholeNumber nought s = word s ≡ s
WholeNumber (plus n) s = word s ≡ s
WholeNumber (minus n) s = Unit {0}
WholeNumber letter_d s = Unit {0}
WholeNumber other s = Unit {0}

zero_whole : (b : ℕ) (w : List ℕ) → same_bytes (b ∷ w) (bytes "0") ≡ true → word (b ∷ w) ≡ b ∷ w
unfolding same_bytes word is_blank
zero_whole b [] e = let both = and_both (eqb b 48) true e in rw (eqb-true b 48 both.0)
zero_whole b (x ∷ w) e = let both = and_both (eqb b 48) false e in absurd (clash both.1 refl)

signed_whole : (w : List ℕ) → WholeNumber (signed plus w) w
unfolding signed
signed_whole w = go (positive w) refl
  where
    go : (r : Option ℕ) → positive w ≡ r → WholeNumber (signed plus w) w
    go none q = rw (q, signed) tt
    go (some n) q = rw (q, signed) (positive_whole w n q)

signed_minus : (w s : List ℕ) → WholeNumber (signed minus w) s
unfolding signed
signed_minus w s = go (positive w) refl
  where
    go : (r : Option ℕ) → positive w ≡ r → WholeNumber (signed minus w) s
    go none q = rw (q, signed) tt
    go (some n) q = rw (q, signed) tt

token_whole : (s : List ℕ) → WholeNumber (token s) s
unfolding token
token_whole [] = tt
token_whole (b ∷ w) =
    bool_cases (same_bytes (b ∷ w) (bytes "0"))
    (λ y. rw (y, token) (zero_whole b w y))
    (λ n. bool_cases (same_bytes (b ∷ w) (bytes "d"))
    (λ y. rw (n, token, y) tt)
    (λ m. bool_cases (eqb b 45)
    (λ y. rw (n, token, m, y) (signed_minus w (b ∷ w)))
    (λ x. rw (n, token, m, x) (signed_whole (b ∷ w)))))

count-some : (limit : ℕ) (t : Token) (s : List ℕ) (v : ℕ) → WholeNumber t s → count limit t ≡ some v → word s ≡ s
unfolding count
count-some limit nought s v w e = w
count-some limit (plus n) s v w e = w
count-some limit (minus n) s v w e = none-some e
count-some limit letter_d s v w e = none-some e
count-some limit other s v w e = none-some e

pub count_whole : (limit : ℕ) (s : List ℕ) (v : ℕ) → count limit (token s) ≡ some v → word s ≡ s
count_whole limit s v e = count-some limit (token s) s v (token_whole s) e

-- If its word is not all of it, a slice is no number.
pub count_not_whole : (limit : ℕ) (s : List ℕ) → (word s ≡ s → ⊥) → None ≡ count_of (count limit (token s))
count_not_whole limit s f = option_cases (count limit (token s)) (λ q. rw q) (λ v q. absurd (f (count_whole limit s v q)))

-- A whole slice as a number

pub count_empty : (limit : ℕ) (s : List ℕ) → length s ≡ 0 → None ≡ count_of (count limit (token s))
unfolding count token
count_empty limit [] e = refl
count_empty limit (b ∷ s) e = absurd (omega arith)

module _ (limit : ℕ) (s : List ℕ) (some_byte : length s ≡ 0 → ⊥) where
  word_blank : (t : List ℕ) → (length t ≡ 0 → ⊥) → is_blank (get_or t 0 0) ≡ true → word t ≡ t → ⊥
  unfolding word
  word_blank [] h e q = h refl
  word_blank (b ∷ t) h e q = let z : [] ≡ b ∷ t = (rw (e, word) at q) in let y : ◌≡◌ {A = ℕ} 0 1 = cc in omega arith

  pub count_blank : is_blank (get_or s 0 0) ≡ true → None ≡ count_of (count limit (token s))
  count_blank e = count_not_whole limit s (word_blank s some_byte e)

  module _ (first : is_blank (get_or s 0 0) ≡ false) (t : Found) (next : ℕ) (r : Scans 0 (drop 0 s) t next) where
    no_blanks : (u : List ℕ) → is_blank (get_or u 0 0) ≡ false → blanks u ≡ 0
    unfolding blanks
    no_blanks [] e = refl
    no_blanks (b ∷ u) e = rw (e, blanks)

    is_token : t ≡ token_of (word s)
    is_token = r.is_token ∙ rw (no_blanks s first)

    is_next : next ≡ length (word s)
    is_next =
        let z = no_blanks s first in
        let w : word (drop (blanks s) s) ≡ word s = rw z in
        omega (arith, r.is_next, z, ap length w)

    pub count-part : (next ≡ length s → ⊥) → None ≡ count_of (count limit (token s))
    count-part f = count_not_whole limit s (λ q. f (is_next ∙ ap length q))

    word_all : (u : List ℕ) → length (word u) ≡ length u → word u ≡ u
    unfolding word
    word_all [] e = refl
    word_all (b ∷ u) e =
        bool_cases (is_blank b)
        (λ y. absurd (let z : 0 ≡ suc (length u) = (rw (y, word) at e) in omega arith))
        (λ f. rw (f, word) (ap (λ (v : List ℕ). b ∷ v) (word_all u (let z : suc (length (word u)) ≡ suc (length u) = (rw (f, word) at e) in omega arith))))

    token_of_lem : (u : List ℕ) → (length u ≡ 0 → ⊥) → token_of u ≡ capped (token u)
    unfolding token_of
    token_of_lem [] h = absurd (h refl)
    token_of_lem (b ∷ u) h = refl

    pub count_all : limit < most → next ≡ length s → counted limit t ≡ count_of (count limit (token s))
    count_all h e =
        let w = word_all s (sym is_next ∙ e) in
        rw (is_token, w, token_of_lem s some_byte) (counted-capped limit h (token s))

-- The prefix

eqb_flip : (x b : ℕ) → eqb x b ≡ eqb b x
eqb_flip x b =
    bool_cases (eqb b x)
    (λ y. rw (y, eq-eqb x b (sym (eqb-true b x y))))
    (λ n. rw (n, ne_eqb x b (λ q. eqb-false b x n (sym q))))

prefix_is : (xs s : List ℕ) → after_prefix xs s ≡ only (pointwise eqb (take (length xs) s) xs) (drop (length xs) s)
unfolding after_prefix
prefix_is [] s = refl
prefix_is (x ∷ xs) [] = refl
prefix_is (x ∷ xs) (b ∷ s) =
    bool_cases (eqb b x)
    (λ y. rw (eqb_flip x b, y, after_prefix) (prefix_is xs s))
    (λ n. rw (eqb_flip x b, n, after_prefix))

-- The whole line

pub header_off : (line : List ℕ) → pointwise eqb (take 6 line) (bytes "p cnf ") ≡ false → None ≡ header_of (header line)
unfolding header
header_off line e = rw (prefix_is (bytes "p cnf ") line, e)

pub count_of_some : (o : Option ℕ) (v : ℕ) → Some v ≡ count_of o → o ≡ some v
count_of_some none v p = absurd (let z : ◌≡◌ {A = ℕ} 0 1 = cc in omega arith)
count_of_some (some n) v p = let z : n ≡ v = cc in ap some z

pub count_of_none : (o : Option ℕ) → None ≡ count_of o → o ≡ none
count_of_none none p = refl
count_of_none (some n) p = absurd (let z : ◌≡◌ {A = ℕ} 0 1 = cc in omega arith)

module _ (line numbers : List ℕ) (p : pointwise eqb (take 6 line) (bytes "p cnf ") ≡ true) (n : numbers ≡ drop 6 line) (space : ℕ) (f : FirstOf 32 numbers space) where
  prefix : after_prefix (bytes "p cnf ") line ≡ some numbers
  prefix = prefix_is (bytes "p cnf ") line ∙ rw (p, n)

  pub header_vars : None ≡ count_of (count max_variable (token (take space numbers))) → None ≡ header_of (header line)
  unfolding header
  header_vars e = rw (prefix, f.is_before, count_of_none (count max_variable (token (take space numbers))) e)

  module _ (v : ℕ) (is : Some v ≡ count_of (count max_variable (token (take space numbers)))) (r : ℕ) (b : Behind numbers space r) where
    rest_is : take (length numbers - r) (drop r numbers) ≡ behind 32 numbers
    rest_is = part_rest numbers r ∙ b.same ∙ sym f.is_behind

    pub header_clauses : None ≡ count_of (count max_clauses (token (take (length numbers - r) (drop r numbers)))) → None ≡ header_of (header line)
    unfolding header
    header_clauses e =
        rw (prefix, f.is_before, count_of_some (count max_variable (token (take space numbers))) v is, ← rest_is)
        (rw (count_of_none (count max_clauses (token (take (length numbers - r) (drop r numbers)))) e))

    pub header_both : (c : ℕ) → Some c ≡ count_of (count max_clauses (token (take (length numbers - r) (drop r numbers)))) → Some (record { vars = v; clauses = c }) ≡ header_of (header line)
    unfolding header
    header_both c e =
        rw (prefix, f.is_before, count_of_some (count max_variable (token (take space numbers))) v is, ← rest_is)
        (rw (count_of_some (count max_clauses (token (take (length numbers - r) (drop r numbers)))) c e))

-- A cut at the beginning leaves all of a list: a mistake in the prefix is refused for the prefix, and not for a cut that comes with it.
pub uncut : (l whole : List ℕ) → l ≡ whole → take (length l - 0) l ≡ whole
uncut l whole e = let all : length l - 0 ≡ length l = omega arith in rw all (take-length l ∙ e)
