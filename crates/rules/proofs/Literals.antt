-- Laws of literals: comparing them, and what an assignment makes of them and of their opposites. Assumes nothing.
use Rattle.std.proofs.Common.{◌≡◌, refl, ap, ⊎_elim, true, false, not, [], ◌∷◌, eqb-true, eq-eqb}
use Rattle.std.proofs.Math.Bool.{false≢true}
use Rattle.meaning.specs.Meaning.{Literal, pos, neg, Clause, Assignment, holds, satisfies}
use Rattle.meaning.proofs.Truth.{bool_cases, clash, or_cases, or_left, or_right}
use Rattle.rules.specs.Judging.{opposite, same_literal, among}

pub same_equal : (l k : Literal) → same_literal l k ≡ true → l ≡ k
unfolding same_literal
same_equal (pos v) (pos w) e = ap pos (eqb-true v w e)
same_equal (pos v) (neg w) e = absurd (false≢true e)
same_equal (neg v) (pos w) e = absurd (false≢true e)
same_equal (neg v) (neg w) e = ap neg (eqb-true v w e)

pub same_self : (l : Literal) → same_literal l l ≡ true
unfolding same_literal
same_self (pos v) = eq-eqb v v refl
same_self (neg v) = eq-eqb v v refl

pub opposite_twice : (l : Literal) → opposite (opposite l) ≡ l
opposite_twice (pos v) = refl
opposite_twice (neg v) = refl

pub opposite-false : (a : Assignment) (l : Literal) → holds a (opposite l) ≡ true → holds a l ≡ false
opposite-false a (pos v) e = bool_cases (a v) (λ t. absurd (clash e (ap not t))) (λ f. f)
opposite-false a (neg v) e = ap not e

pub opposite-true : (a : Assignment) (l : Literal) → holds a l ≡ false → holds a (opposite l) ≡ true
opposite-true a (pos v) e = ap not e
opposite-true a (neg v) e = bool_cases (a v) (λ t. t) (λ f. absurd (clash (ap not f) e))

-- A clause with a literal that holds is satisfied.
pub among-satisfies : (a : Assignment) (l : Literal) (c : Clause) → holds a l ≡ true → among l c ≡ true → satisfies a c ≡ true
unfolding among
among-satisfies a l [] h e = absurd (false≢true e)
among-satisfies a l (k ∷ c) h e =
    ⊎_elim
    (λ s. or_left (holds a k) _ (rw (← same_equal l k s) h))
    (λ r. or_right (holds a k) _ (among-satisfies a l c h r))
    (or_cases (same_literal l k) (among l c) e)
