-- Laws of making the literals of a clause false: taken one by one, each under the assignment that those before it left, they
-- say whether one is true or two are opposites. Assumes nothing.
use Rattle.std.proofs.Common.{ℕ, ◌+◌, ◌<◌, ◌≤◌, ◌≡◌, Bool, true, false, ◌||◌, List, [], ◌∷◌, ◌++◌, map, length, get_or, drop, Option, Some, None, Ok, Err}
use Rattle.std.proofs.Common.{refl, sym, ap, ◌∙◌, inl, inr, ⊎_elim, true≢false, append-nil, arith, add-one, eq-eqb, ne_eqb, drop_of_length-le, drop-cons}
use Rattle.std.proofs.lemmas.Option.{none-some, same_Some}
use Rattle.meaning.specs.Meaning.{Literal, Clause}
use Rattle.meaning.proofs.Truth.{bool_cases, or_left}
use Rattle.rules.specs.Judging.{opposite, same_literal, among, without, has_opposites, Trail, some_true}
use Rattle.rules.proofs.Literals.{same_equal, same_self}
use Rattle.clauses.specs.Codes.{literal_of, opposite_code}
use Rattle.clauses.proofs.Literals.{same_literal_lem}
use Rattle.assignment.specs.Marks.{Shows, Paired, Marked, Laid, Falsifies}
use Rattle.assignment.proofs.Marking.{laid_none, laid_join, paired_opposite, shows_same, shows_true, shows_untrue}
use Rattle.judge.specs.Falsifying.{Outcome, OneCase, FalsifiesOne, others_of, PassedCase, OthersCase, FalsifiesOthers, ClauseCase, FalsifiesClause}
use Rattle.judge.specs.declared.falsifying.Obstacle.{Obstacle}
use Rattle.judge.specs.declared.falsifying.Obstacle.TheVariants.{SomeTrue, TooShort}

-- One by one

-- One of the literals is true when its turn comes, where those before it were made false.
pub proves_true : Trail → Clause → Bool
unfolding among
proves_true a [] = false
proves_true a (l ∷ c) = among l a || proves_true (opposite l ∷ a) c

-- The assignment once all were made false.
pub fallen : Trail → Clause → Trail
fallen a [] = a
fallen a (l ∷ c) = fallen (opposite l ∷ a) c

same_turned : (l k : Literal) → same_literal l k ≡ same_literal k l
same_turned l k =
    bool_cases (same_literal l k)
    (λ y. y ∙ sym (rw (same_equal l k y) (same_self k)))
    (λ n. n ∙ sym (bool_cases (same_literal k l) (λ y. absurd (true≢false (sym (rw (same_equal k l y) (same_self l)) ∙ n))) (λ m. m)))

or_middle : (s x y z : Bool) → ((s || x) || (y || z)) ≡ ((s || y) || (x || z))
or_middle true x y z = refl
or_middle false true true z = refl
or_middle false true false z = refl
or_middle false false y z = refl

or_last : (p q r s : Bool) → (p || ((q || r) || s)) ≡ ((p || r) || (q || s))
or_last true q r s = refl
or_last false true true s = refl
or_last false true false s = refl
or_last false false r s = refl

-- One more literal is true.
some_true_more : (k : Literal) (a : Trail) (c : Clause) → some_true (k ∷ a) c ≡ (among k c || some_true a c)
unfolding some_true among
some_true_more k a [] = refl
some_true_more k a (m ∷ c) =
    ap (λ (b : Bool). (same_literal m k || among m a) || b) (some_true_more k a c)
    ∙ (ap (λ (b : Bool). (b || among m a) || (among k c || some_true a c)) (same_turned m k)
    ∙ or_middle (same_literal k m) (among m a) (among k c) (some_true a c))

pub proves_true_lem : (c : Clause) (a : Trail) → proves_true a c ≡ (some_true a c || has_opposites c)
unfolding proves_true some_true has_opposites
proves_true_lem [] a = refl
proves_true_lem (l ∷ c) a =
    ap (λ (b : Bool). among l a || b) (proves_true_lem c (opposite l ∷ a))
    ∙ (ap (λ (b : Bool). among l a || (b || has_opposites c)) (some_true_more (opposite l) a c)
    ∙ or_last (among l a) (among (opposite l) c) (some_true a c) (has_opposites c))

or_turned : (x y z : Bool) → (x || (y || z)) ≡ (y || (x || z))
or_turned true true z = refl
or_turned true false z = refl
or_turned false y z = refl

among_between : (k l : Literal) (xs a : Trail) → among k (xs ++ (l ∷ a)) ≡ among k (l ∷ (xs ++ a))
unfolding among
among_between k l [] a = refl
among_between k l (x ∷ xs) a = ap (λ (b : Bool). same_literal k x || b) (among_between k l xs a) ∙ or_turned (same_literal k x) (same_literal k l) (among k (xs ++ a))

-- The order in which literals became true does not matter.
among_fallen : (k : Literal) (c : Clause) (a : Trail) → among k (map opposite c ++ a) ≡ among k (fallen a c)
unfolding fallen
among_fallen k [] a = refl
among_fallen k (l ∷ c) a = sym (among_between k (opposite l) (map opposite c) a) ∙ among_fallen k c (opposite l ∷ a)

-- One literal

module _ (marks tape : List ℕ) (t x : ℕ) (kept : Option ℕ) (room : t ≤ length tape) where
  pub one_left_out : kept ≡ Some x → FalsifiesOne marks tape t x kept marks tape (Ok (tt {0})) t
  one_left_out e = record { laid = laid_none marks tape t room; few = omega arith; case = inl (e, refl) }

  module _ (other : kept ≡ Some x → ⊥) (back : ℕ) (e : back ≡ opposite_code x) where
    pub one-true : (get_or marks back 0 ≡ 0 → ⊥) → FalsifiesOne marks tape t x kept marks tape (Err SomeTrue) t
    one-true d = record { laid = laid_none marks tape t room; few = omega arith; case = (other, rw e at d, refl) }

    pub one_falls : get_or marks back 0 ≡ 0 → (marks' tape' : List ℕ) (t' : ℕ) → Falsifies marks tape t x marks' tape' t' → FalsifiesOne marks tape t x kept marks' tape' (Ok (tt {0})) t'
    one_falls z marks' tape' t' f = record { laid = f.laid; few = f.few; case = inr (record { other = other; free = rw e at z; shows = f.shows }) }

  pub one_short : length tape ≤ t → FalsifiesOne marks tape t x kept marks tape (Err TooShort) t
  one_short h = record { laid = laid_none marks tape t room; few = omega arith; case = (h, refl) }

-- The literals that are left

pub rest : List ℕ → Option ℕ → ℕ → Clause
rest clause kept i = others_of kept (drop i clause)

module _ (clause : List ℕ) (i : ℕ) (more : i < length clause) where
  pub rest_left_out : (kept : Option ℕ) → kept ≡ Some (get_or clause i 0) → rest clause kept i ≡ rest clause kept (i + 1)
  unfolding rest without
  rest_left_out None e = absurd (none-some (get_or clause i 0) e)
  rest_left_out (Some q) e =
      let same : same_literal (literal_of q) (literal_of (get_or clause i 0)) ≡ true = same_literal_lem q (get_or clause i 0) ∙ eq-eqb q (get_or clause i 0) (same_Some q (get_or clause i 0) e) in
      rw (add-one i, drop-cons clause i 0 more, same, without)

  pub rest_other : (kept : Option ℕ) → (kept ≡ Some (get_or clause i 0) → ⊥) → rest clause kept i ≡ literal_of (get_or clause i 0) ∷ rest clause kept (i + 1)
  unfolding rest without
  rest_other None d = rw (add-one i, drop-cons clause i 0 more)
  rest_other (Some q) d =
      let differs : same_literal (literal_of q) (literal_of (get_or clause i 0)) ≡ false = same_literal_lem q (get_or clause i 0) ∙ ne_eqb q (get_or clause i 0) (λ e. d (ap Some e)) in
      rw (add-one i, drop-cons clause i 0 more, differs, without)

rest_none : (clause : List ℕ) (kept : Option ℕ) (i : ℕ) → length clause ≤ i → rest clause kept i ≡ []
unfolding rest without
rest_none clause None i h = rw (drop_of_length-le clause h)
rest_none clause (Some q) i h = rw (drop_of_length-le clause h)

-- The loop

-- Under the assignment now, the literals that are left say what all say.
pub record Left (clause : List ℕ) (kept : Option ℕ) (a : Trail) (marks : List ℕ) (i : ℕ) : Type 0 where
  pub now : Trail
  pub shows : Shows marks now
  pub same : proves_true a (rest clause kept 0) ≡ proves_true now (rest clause kept i)
  pub goes : fallen a (rest clause kept 0) ≡ fallen now (rest clause kept i)

pub record Falling (clause : List ℕ) (kept : Option ℕ) (marks₀ tape₀ : List ℕ) (t₀ : ℕ) (marks tape : List ℕ) (i t : ℕ) : Type 0 where
  pub laid : Laid marks₀ tape₀ t₀ marks tape t
  pub few : t ≤ t₀ + i
  pub within : i ≤ length clause
  pub left : (a : Trail) → Shows marks₀ a → Left clause kept a marks i

pub falling_start : (clause : List ℕ) (kept : Option ℕ) (marks tape : List ℕ) (t : ℕ) → t ≤ length tape → Falling clause kept marks tape t marks tape 0 t
falling_start clause q marks tape t room = record {
  laid = laid_none marks tape t room;
  few = omega arith;
  within = omega arith;
  left = λ a s. record { now = a; shows = s; same = refl; goes = refl };
}

module _ (clause : List ℕ) (kept : Option ℕ) (marks₀ tape₀ : List ℕ) (t₀ : ℕ) (marks tape : List ℕ) (i t : ℕ) (k : Falling clause kept marks₀ tape₀ t₀ marks tape i t)
    (paired : Paired marks₀) (known : Marked clause marks₀) where
  pub falling_paired : Paired marks
  falling_paired = record { even = rw k.laid.differ.long paired.even; small = rw k.laid.differ.long paired.small }

  pub falling_known : i < length clause → get_or clause i 0 < length marks
  falling_known more = rw k.laid.differ.long (known.below i more)

  pub falling_end : length clause ≤ i → FalsifiesOthers clause (others_of kept clause) marks₀ tape₀ t₀ marks tape (Ok (tt {0})) t (length clause)
  unfolding rest proves_true fallen
  falling_end h =
      let none : rest clause kept i ≡ [] = rest_none clause kept i h in
      record {
        laid = k.laid;
        few = omega (arith, k.few, k.within);
        so_many = refl;
        outcome = λ a s.
            let l = k.left a s in
            record {
              none_true = sym (proves_true_lem (others_of kept clause) a) ∙ (l.same ∙ ap (proves_true l.now) none);
              shows =
                  shows_same marks l.now (map opposite (others_of kept clause) ++ a)
                  (λ m. among_fallen m (others_of kept clause) a ∙ ap (among m) (l.goes ∙ ap (fallen l.now) none)) l.shows;
            };
      }

  module _ (more : i < length clause) (marks' tape' : List ℕ) (t' : ℕ) where
    laid_both : (r : Outcome) → FalsifiesOne marks tape t (get_or clause i 0) kept marks' tape' r t' → Laid marks₀ tape₀ t₀ marks' tape' t'
    laid_both r one = laid_join marks₀ tape₀ t₀ marks tape t marks' tape' t' k.laid one.laid

    -- A literal at which it stops.
    stop_passed : (o : Obstacle) → OneCase marks tape t (get_or clause i 0) kept marks' t' (Err o) → PassedCase (length clause) (length tape₀) t' i (Err o)
    stop_passed SomeTrue c = more
    stop_passed TooShort c = (more, omega (arith, c.0, c.1, k.laid.long))

    stop_few : (o : Obstacle) → OneCase marks tape t (get_or clause i 0) kept marks' t' (Err o) → t' ≤ t₀ + i
    stop_few SomeTrue c = omega (arith, c.2, k.few)
    stop_few TooShort c = omega (arith, c.1, k.few)

    stop_outcome : (a : Trail) → Left clause kept a marks i → (o : Obstacle) → OneCase marks tape t (get_or clause i 0) kept marks' t' (Err o)
        → OthersCase a (others_of kept clause) marks' (Err o)
    unfolding rest proves_true
    stop_outcome a l SomeTrue c =
        sym (proves_true_lem (others_of kept clause) a)
        ∙ (l.same
        ∙ (ap (proves_true l.now) (rest_other clause i more kept c.0)
        ∙ or_left (among (literal_of (get_or clause i 0)) l.now) _ (shows_true marks l.now l.shows (get_or clause i 0) (paired_opposite marks falling_paired (get_or clause i 0) (falling_known more)) c.1)))
    stop_outcome a l TooShort c = tt

    pub falling_stop : (o : Obstacle) → FalsifiesOne marks tape t (get_or clause i 0) kept marks' tape' (Err o) t'
        → FalsifiesOthers clause (others_of kept clause) marks₀ tape₀ t₀ marks' tape' (Err o) t' i
    falling_stop o one = record {
      laid = laid_both (Err o) one;
      few = stop_few o one.case;
      so_many = stop_passed o one.case;
      outcome = λ a s. stop_outcome a (k.left a s) o one.case;
    }

    -- A literal that is left out, or false now.
    pass : (a : Trail) → Left clause kept a marks i → OneCase marks tape t (get_or clause i 0) kept marks' t' (Ok (tt {0})) → Left clause kept a marks' (i + 1)
    unfolding proves_true fallen
    pass a l c =
        ⊎_elim
        (λ out.
        let less = rest_left_out clause i more kept out.0 in
        record { now = l.now; shows = rw out.1 l.shows; same = l.same ∙ ap (proves_true l.now) less; goes = l.goes ∙ ap (fallen l.now) less })
        (λ made.
        let less = rest_other clause i more kept made.other in
        let untrue = shows_untrue marks l.now l.shows (get_or clause i 0) (paired_opposite marks falling_paired (get_or clause i 0) (falling_known more)) made.free in
        record {
          now = opposite (literal_of (get_or clause i 0)) ∷ l.now;
          shows = made.shows l.now l.shows;
          same = l.same ∙ (ap (proves_true l.now) less ∙ ap (λ (b : Bool). b || proves_true (opposite (literal_of (get_or clause i 0)) ∷ l.now) (rest clause kept (i + 1))) untrue);
          goes = l.goes ∙ ap (fallen l.now) less;
        })
        c

    pub falling_on : FalsifiesOne marks tape t (get_or clause i 0) kept marks' tape' (Ok (tt {0})) t' → Falling clause kept marks₀ tape₀ t₀ marks' tape' (i + 1) t'
    falling_on one = record {
      laid = laid_both (Ok (tt {0})) one;
      few = omega (arith, k.few, one.few);
      within = omega arith;
      left = λ a s. pass a (k.left a s) one.case;
    }

-- A whole clause

-- With no literal true, none of a clause is.
none_true : (c : Clause) → some_true [] c ≡ false
unfolding some_true among
none_true [] = refl
none_true (l ∷ c) = none_true c

only_opposites : (k : Clause) → (some_true [] k || has_opposites k) ≡ has_opposites k
only_opposites k = ap (λ (b : Bool). b || has_opposites k) (none_true k)

module _ (clause marks tape : List ℕ) (t : ℕ) (marks' tape' : List ℕ) (r : Outcome) (t' passed : ℕ)
    (others : FalsifiesOthers clause (map literal_of clause) marks tape t marks' tape' r t' passed) where
  clause_case : (r : Outcome) → OthersCase [] (map literal_of clause) marks' r → ClauseCase (map literal_of clause) marks' r
  clause_case (Ok u) c = record { no_opposites = sym (only_opposites (map literal_of clause)) ∙ c.none_true; shows = rw append-nil at c.shows }
  clause_case (Err SomeTrue) c = sym (only_opposites (map literal_of clause)) ∙ c
  clause_case (Err TooShort) c = tt

  pub whole_clause : FalsifiesClause clause marks tape t marks' tape' r t' passed
  whole_clause = record {
    laid = others.laid;
    few = others.few;
    so_many = others.so_many;
    outcome = λ s. clause_case r (others.outcome [] s);
  }
