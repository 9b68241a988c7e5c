-- A literal among those of a clause. Assumes nothing.
use Rattle.std.proofs.Math.Seq.{take-length}
use Rattle.std.proofs.Common.{◌-◌, length, take, drop, ℕ, ◌≡◌, Bool, ◌||◌, List, [], ◌∷◌, map, eqb, min}
use Rattle.std.proofs.Common.{arith, refl, sym, ap, ◌∙◌, eqb-true, eq-eqb, ne_eqb}
use borrow.Author.Tests.{eqb-false}
use Rattle.meaning.proofs.Truth.{bool_cases}
use Rattle.std.specs.List.{list_any}
use Rattle.rules.specs.Judging.{same_literal, among}
use Rattle.clauses.specs.Codes.{literal_of}
use Rattle.clauses.proofs.Literals.{same_literal_lem}

eqb_turned : (x y : ℕ) → eqb x y ≡ eqb y x
eqb_turned x y = bool_cases (eqb x y) (λ t. t ∙ sym (eq-eqb y x (sym (eqb-true x y t)))) (λ n. n ∙ sym (ne_eqb y x (λ e. eqb-false x y n (sym e))))

pub any_among : (x : ℕ) (clause : List ℕ) → list_any (λ y. eqb y x) clause ≡ among (literal_of x) (map literal_of clause)
unfolding among
any_among x [] = refl
any_among x (y ∷ clause) =
    ap (λ (b : Bool). b || list_any (λ z. eqb z x) clause) (eqb_turned y x ∙ sym (same_literal_lem x y))
    ∙ ap (λ (b : Bool). same_literal (literal_of x) (literal_of y) || b) (any_among x clause)

pub any_found : (x : ℕ) (clause part : List ℕ) (r : Bool) → r ≡ list_any (λ y. eqb y x) part → part ≡ clause → r ≡ among (literal_of x) (map literal_of clause)
any_found x clause part r f e = f ∙ rw e (any_among x clause)

-- What is left of a list from its beginning on is all of it: a clause that is looked at from a later place on is refused for the place, and
-- not for being cut.
pub from_nought : (n : ℕ) (l : List ℕ) → n ≡ 0 → take (length l - n) (drop n l) ≡ l
from_nought n l e = let all : length l - 0 ≡ length l = omega arith in rw (e, all) (take-length l)

pub least_nought : (n k : ℕ) → n ≡ min 0 k → n ≡ 0
least_nought n k e = omega (arith, e)
