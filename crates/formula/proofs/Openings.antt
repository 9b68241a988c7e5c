-- Comment lines, and the first place of a byte: laws for the loops of src/opening.rt. Assumes nothing.
use Rattle.std.proofs.Common.{ℕ, zero, suc, ◌+◌, ◌≤◌, ◌<◌, ◌≡◌, ◌≢◌, true, false, List, [], ◌∷◌, length, drop, get_or}
use Rattle.std.proofs.Common.{refl, ap, ◌∙◌, add-one, arith, eq-eqb, ne_eqb, drop_of_length-le, drop-cons}
use Rattle.rules.specs.Formula.{after_comments, before, behind}
use Rattle.formula.specs.Opening.{AfterLine, AfterComments, FirstOf}

-- The first place of a byte

pub first_of : (x : ℕ) (s : List ℕ) (r : ℕ) → r ≤ length s → ((k : ℕ) → k < r → get_or s k 0 ≢ x) → (r < length s → get_or s r 0 ≡ x) → FirstOf x s r
unfolding before behind
first_of x [] zero h f e = record { is_before = refl; is_behind = refl; within = omega arith }
first_of x [] (suc r) h f e = absurd (omega arith)
first_of x (b ∷ s) zero h f e = let test = eq-eqb b x (e (omega arith)) in record { is_before = rw (test, before); is_behind = rw (test, behind); within = omega arith }
first_of x (b ∷ s) (suc r) h f e =
    let test = ne_eqb b x (f 0 (omega arith)) in
    let rest = first_of x s r (omega arith) (λ k l. f (suc k) (omega arith)) (λ l. e (omega arith)) in
    record {
      is_before = rw (test, before) (ap (λ (t : List ℕ). b ∷ t) rest.is_before);
      is_behind = rw (test, behind) (rest.is_behind ∙ rw (add-one r, add-one (suc r)));
      within = omega (arith, rest.within);
    }

-- The rest of a comment line

-- `at` is where it goes on, and up to i there is no line feed.
pub record Inside (s : List ℕ) (at i : ℕ) : Type 0 where
  pub same : after_comments true (drop at s) ≡ after_comments true (drop i s)
  pub later : at ≤ i
  pub within : i ≤ length s

module _ (s : List ℕ) (at i : ℕ) (r : Inside s at i) where
  pub inside_end : length s ≤ i → AfterLine s at (length s)
  unfolding after_comments
  inside_end h = record {
    same = r.same ∙ rw (drop_of_length-le s h, drop_of_length-le s (let e : length s ≤ length s = omega arith in e));
    later = omega (arith, r.later, r.within);
    within = omega arith;
  }

  module _ (h : i < length s) where
    pub inside_on : (get_or s i 0 ≡ 10 → ⊥) → Inside s at (i + 1)
    unfolding after_comments
    inside_on e = record { same = r.same ∙ rw (add-one i, drop-cons s i 0 h, after_comments, ne_eqb (get_or s i 0) 10 e); later = omega (arith, r.later); within = omega arith }

    pub inside_feed : get_or s i 0 ≡ 10 → AfterLine s at (i + 1)
    unfolding after_comments
    inside_feed e = record { same = r.same ∙ rw (add-one i, drop-cons s i 0 h, e); later = omega (arith, r.later); within = omega arith }

-- Comment lines

pub record Passing (s : List ℕ) (at : ℕ) : Type 0 where
  pub same : after_comments false s ≡ after_comments false (drop at s)
  pub within : at ≤ length s

module _ (s : List ℕ) (at : ℕ) (p : Passing s at) where
  pub passing_end : length s ≤ at → AfterComments s at
  unfolding after_comments
  passing_end h = record { same = p.same ∙ rw drop_of_length-le; within = p.within }

  module _ (h : at < length s) where
    pub passing_stop : (get_or s at 0 ≡ 99 → ⊥) → AfterComments s at
    unfolding after_comments
    passing_stop e = record { same = p.same ∙ rw (drop-cons s at 0 h, ne_eqb (get_or s at 0) 99 e, after_comments); within = p.within }

    pub passing_on : (r : ℕ) → get_or s at 0 ≡ 99 → AfterLine s (at + 1) r → Passing s r
    unfolding after_comments
    passing_on r e l =
        let next : after_comments false (drop at s) ≡ after_comments true (drop (at + 1) s) = rw (add-one at, drop-cons s at 0 h, eq-eqb (get_or s at 0) 99 e, after_comments) in
        record { same = p.same ∙ next ∙ l.same; within = l.within }
