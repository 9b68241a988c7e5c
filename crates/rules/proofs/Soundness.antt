-- Whoever verifies is right: if the verdict is `verified`, at whatever step, the formula is readable and has no solution.
-- The argument: while some assignment satisfies all live clauses, no step that is accepted takes the last such assignment
-- away, and no accepted step can add the empty clause, which no assignment satisfies. Assumes nothing.
use Rattle.std.proofs.Common.{ℕ, zero, suc, ◌≡◌, refl, sym, ap, subst, ◌∙◌, ◌⊎◌, inl, inr, ⊎_elim, true, false, ◌||◌, List, [], ◌∷◌, ◌++◌, map, append-nil, arith, eqb-true, eq-eqb, eqb, ltb, length}
use Rattle.std.proofs.Math.Bool.{false≢true}
use Rattle.std.proofs.Math.Option.{Option, none, some}
use Rattle.meaning.specs.Meaning.{Literal, pos, neg, Clause, Formula, Assignment, holds, satisfies, satisfies_all, Unsolvable}
use Rattle.meaning.proofs.Truth.{bool_cases, clash, or_cases, or_left, or_right, or_neither, and_both}
use Rattle.meaning.proofs.Solutions.{no_assignment_solves}
use Rattle.rules.specs.Text.{Token, tokens}
use Rattle.rules.specs.Formula.{read_formula}
use Rattle.rules.specs.Steps.{Hint, Step, add, delete, read_step}
use Rattle.rules.specs.Judging.{
  opposite,
  same_literal,
  among,
  without,
  has_opposites,
  Live,
  find,
  containing,
  Ground,
  Trail,
  some_true,
  not_false,
  Look,
  all_false,
  forces,
  neither,
  look_of,
  look_at,
  Taken,
  conflict,
  bad_hint,
  hints_end,
  take_hints,
  leading,
  groups,
  mismatch,
  group_end,
  group_fault,
  groups_fault,
  after_hints,
  hints_fault,
  addition_fault,
  remove,
  State,
  Judged,
  refused,
  adds_empty,
  goes_on,
  judge_deletion,
  added,
  judge,
}
use Rattle.rules.specs.Answers.{Ending, ends_verified, ends_unreadable_formula, ends_unreadable_step, ends_refused, ends_unfinished, verified, answer, run, numbered, start, checked, ending, verdict, Refuted}
use Rattle.rules.proofs.Options.{none-some, some-none, some_inj}
use Rattle.rules.proofs.Literals.{same_equal, opposite-false, opposite-true, among-satisfies}
use Rattle.rules.proofs.Ids.{Orderly, OrderlyJudged, AllFound, rising_found, start_orderly, judge_orderly}

-- What holds under an assignment

-- All literals of a trail hold.
abbrev AllTrue : Assignment → Trail → Type 0
AllTrue a [] = Unit {0}
AllTrue a (l ∷ t) = (holds a l ≡ true) × AllTrue a t

-- All live clauses are satisfied.
abbrev pub LiveHolds : Assignment → Live → Type 0
LiveHolds a [] = Unit {0}
LiveHolds a (e ∷ live) = (satisfies a e.1 ≡ true) × LiveHolds a live

among-true : (a : Assignment) (l : Literal) (t : Trail) → AllTrue a t → among l t ≡ true → holds a l ≡ true
unfolding among
among-true a l [] h e = absurd (false≢true e)
among-true a l (k ∷ t) h e =
    ⊎_elim (λ s. rw (same_equal l k s) h.0) (λ r. among-true a l t h.1 r) (or_cases (same_literal l k) (among l t) e)

-- The literals that are false may go.
not-false-holds : (a : Assignment) (t : Trail) → AllTrue a t → (c : Clause) → satisfies a c ≡ true → satisfies a (not_false t c) ≡ true
unfolding not_false
not-false-holds a t h [] e = e
not-false-holds a t h (l ∷ c) e =
    bool_cases (among (opposite l) t)
    (λ y. rw (y, not_false) (⊎_elim (λ p. absurd (clash p (opposite-false a l (among-true a (opposite l) t h y)))) (not-false-holds a t h c) (or_cases (holds a l) _ e)))
    (λ n. rw (n, not_false) (⊎_elim (λ p. or_left _ _ p) (λ r. or_right (holds a l) _ (not-false-holds a t h c r)) (or_cases (holds a l) _ e)))

-- Where a clause is satisfied, q holds or the literals other than q satisfy it.
without_cases : (a : Assignment) (q : Literal) (c : Clause) → satisfies a c ≡ true → (holds a q ≡ true) ⊎ (satisfies a (without q c) ≡ true)
unfolding without
without_cases a q [] e = inr e
without_cases a q (k ∷ c) e =
    bool_cases (same_literal q k)
    (λ y. rw (y, without) (⊎_elim (λ p. inl (rw (same_equal q k y) p)) (without_cases a q c) (or_cases (holds a k) _ e)))
    (λ n. rw (n, without) (⊎_elim
    (λ p. inr (or_left (holds a k) _ p))
    (λ r. ⊎_elim (λ x. inl x) (λ x. inr (or_right (holds a k) _ x)) (without_cases a q c r))
    (or_cases (holds a k) _ e)))

-- Looking at a satisfied clause under true literals: it is no conflict, and what it forces holds.
abbrev FineLook : Assignment → Look → Type 0
FineLook a all_false = ⊥
FineLook a (forces l) = holds a l ≡ true
FineLook a neither = Unit {0}

look_of_fine : (a : Assignment) (t : Trail) (c : Clause) → satisfies a c ≡ true → FineLook a (look_of t c)
unfolding look_of
look_of_fine a t [] e = false≢true e
look_of_fine a t (l ∷ c) e = go (without l c) refl
  where
    first : (holds a l ≡ true) ⊎ (satisfies a (without l c) ≡ true)
    first = ⊎_elim (λ x. inl x) (without_cases a l c) (or_cases (holds a l) _ e)

    go : (r : Clause) → without l c ≡ r → FineLook a (look_of t (l ∷ c))
    go [] q =
        bool_cases (among l t)
        (λ y. rw (q, look_of, y) tt)
        (λ n. rw (q, look_of, n) (⊎_elim (λ x. x) (λ x. absurd (false≢true (rw q at x))) first))
    go (k ∷ ks) q = rw (q, look_of) tt

look_fine : (a : Assignment) (t : Trail) → AllTrue a t → (c : Clause) → satisfies a c ≡ true → FineLook a (look_at t c)
unfolding look_at
look_fine a t h c e = look_of_fine a t (not_false t c) (not-false-holds a t h c e)

find-holds : (a : Assignment) (n : ℕ) (live : Live) (c : Clause) → LiveHolds a live → find n live ≡ some c → satisfies a c ≡ true
unfolding find
find-holds a n [] c h e = none-some e
find-holds a n (x ∷ live) c h e =
    bool_cases (eqb n x.0)
    (λ y. let q : x.1 ≡ c = some_inj (rw (y, find) at e) in rw (← q) h.0)
    (λ m. find-holds a n live c h.1 (rw (m, find) at e))

-- Rule 3 under an assignment that satisfies the live clauses and the trail: no conflict, and the trail goes on holding.
abbrev FineTaken : Assignment → Taken → Type 0
FineTaken a conflict = ⊥
FineTaken a (bad_hint g) = Unit {0}
FineTaken a (hints_end t) = AllTrue a t

take_fine : (a : Assignment) (live : Live) → LiveHolds a live → (hs : List ℕ) (t : Trail) → AllTrue a t → FineTaken a (take_hints live t hs)
unfolding take_hints
take_fine a live h [] t ht = ht
take_fine a live h (n ∷ hs) t ht = go (take_fine a live h hs) (find n live) refl
  where
    go : ((t : Trail) → AllTrue a t → FineTaken a (take_hints live t hs)) → (r : Option Clause) → find n live ≡ r → FineTaken a (take_hints live t (n ∷ hs))
    go ih none q = rw (q, take_hints) tt
    go ih (some c) q = on (look_at t c) refl (look_fine a t ht c (find-holds a n live c h q))
      where
        on : (r : Look) → look_at t c ≡ r → FineLook a (look_at t c) → FineTaken a (take_hints live t (n ∷ hs))
        on all_false z f = absurd (rw z at f)
        on (forces l) z f = rw (q, take_hints, z) (ih (l ∷ t) (rw z at f, ht))
        on neither z f = rw (q, take_hints, z) tt

-- Rule 4

some-true : (a : Assignment) (t : Trail) → AllTrue a t → (c : Clause) → some_true t c ≡ true → satisfies a c ≡ true
unfolding some_true
some-true a t h [] e = e
some-true a t h (l ∷ c) e =
    ⊎_elim
    (λ y. or_left (holds a l) _ (among-true a l t h y))
    (λ r. or_right (holds a l) _ (some-true a t h c r))
    (or_cases (among l t) _ e)

-- A clause with a literal and its opposite is satisfied by every assignment.
opposites_hold : (a : Assignment) (c : Clause) → has_opposites c ≡ true → satisfies a c ≡ true
unfolding has_opposites
opposites_hold a [] e = e
opposites_hold a (l ∷ c) e =
    ⊎_elim
    (λ y. bool_cases (holds a l) (or_left (holds a l) _) (λ n. or_right (holds a l) _ (among-satisfies a (opposite l) c (opposite-true a l n) y)))
    (λ r. or_right (holds a l) _ (opposites_hold a c r))
    (or_cases (among (opposite l) c) _ e)

-- Where a clause is not satisfied, the opposites of its literals hold.
opposites_true : (a : Assignment) (t : Trail) → AllTrue a t → (c : Clause) → satisfies a c ≡ false → AllTrue a (map opposite c ++ t)
opposites_true a t h [] e = h
opposites_true a t h (l ∷ c) e =
    let both = or_neither (holds a l) (satisfies a c) e in
    (opposite-true a l both.0, opposites_true a t h c both.1)

group_end_lem : (a : Assignment) (d : ℕ) (r : Taken) → group_end d r ≡ none → FineTaken a r → ⊥
group_end_lem a d conflict e f = f
group_end_lem a d (bad_hint g) e f = some-none e
group_end_lem a d (hints_end t) e f = some-none e

-- A group that is done: the other literals of its clause satisfy it.
group_holds : (a : Assignment) (live : Live) → LiveHolds a live → (t : Trail) → AllTrue a t
    → (d : ℕ) (c : Clause) (hs : List ℕ) → group_fault live t d c hs ≡ none → satisfies a c ≡ true
unfolding group_fault
group_holds a live h t ht d c hs e =
    bool_cases (some_true t c || has_opposites c)
    (λ y. ⊎_elim (some-true a t ht c) (opposites_hold a c) (or_cases (some_true t c) _ y))
    (λ m. bool_cases (satisfies a c) (λ y. y)
    (λ n. absurd (group_end_lem a d (take_hints live (map opposite c ++ t) hs) (rw (m, group_fault) at e) (take_fine a live h hs (map opposite c ++ t) (opposites_true a t ht c n)))))

-- a, changed so that p holds.
abbrev flip : Literal → Assignment → Assignment
flip (pos v) a w = elim (eqb v w) [ true ↦ true | false ↦ a w ]
flip (neg v) a w = elim (eqb v w) [ true ↦ false | false ↦ a w ]

flip-holds : (a : Assignment) (p : Literal) → holds (flip p a) p ≡ true
flip-holds a (pos v) = rw (eq-eqb v v refl, flip)
flip-holds a (neg v) = rw (eq-eqb v v refl, flip)

-- It changes the opposite of p alone from true to false.
flip_keeps : (a : Assignment) (p l : Literal) → same_literal (opposite p) l ≡ false → holds a l ≡ true → holds (flip p a) l ≡ true
unfolding same_literal
flip_keeps a (pos v) (pos w) d h = bool_cases (eqb v w) (λ t. rw (t, flip)) (λ f. rw (f, flip) h)
flip_keeps a (pos v) (neg w) d h = rw (d, flip) h
flip_keeps a (neg v) (pos w) d h = rw (d, flip) h
flip_keeps a (neg v) (neg w) d h = bool_cases (eqb v w) (λ t. rw (t, flip)) (λ f. rw (f, flip) h)

-- A clause that is satisfied by a literal other than the opposite of p stays so when p is made true.
flip-clause : (a : Assignment) (p : Literal) (c : Clause) → satisfies a (without (opposite p) c) ≡ true → satisfies (flip p a) c ≡ true
unfolding without
flip-clause a p [] e = e
flip-clause a p (k ∷ c) e =
    bool_cases (same_literal (opposite p) k)
    (λ y. or_right (holds (flip p a) k) _ (flip-clause a p c (rw (y, without) at e)))
    (λ n. ⊎_elim
    (λ x. or_left (holds (flip p a) k) _ (flip_keeps a p k n x))
    (λ x. or_right (holds (flip p a) k) _ (flip-clause a p c x))
    (or_cases (holds a k) (satisfies a (without (opposite p) c)) (rw (n, without) at e)))

without-none : (q : Literal) (c : Clause) → among q c ≡ false → without q c ≡ c
unfolding among without
without-none q [] e = refl
without-none q (k ∷ c) e =
    let both = or_neither (same_literal q k) (among q c) e in
    rw (both.0, without) (ap (λ (r : Clause). k ∷ r) (without-none q c both.1))

-- What it says that the first of the groups has no fault, nor have the others.
record FirstDone (live : Live) (t : Trail) (q : Literal) (g : ℕ × List ℕ) (gs : List (ℕ × List ℕ)) : Type 0 where
  clause : Clause
  found : find g.0 live ≡ some clause
  done : group_fault live t g.0 (without q clause) g.1 ≡ none
  others : groups_fault live t q gs ≡ none

first_done : (live : Live) (t : Trail) (q : Literal) (g : ℕ × List ℕ) (gs : List (ℕ × List ℕ)) → groups_fault live t q (g ∷ gs) ≡ none → FirstDone live t q g gs
unfolding groups_fault
first_done live t q g gs e = go (find g.0 live) refl
  where
    go : (r : Option Clause) → find g.0 live ≡ r → FirstDone live t q g gs
    go none z = some-none (rw (z, groups_fault) at e)
    go (some c) z = on (group_fault live t g.0 (without q c) g.1) refl
      where
        on : (r : Option Ground) → group_fault live t g.0 (without q c) g.1 ≡ r → FirstDone live t q g gs
        on none y = record { clause = c; found = z; done = y; others = rw (z, groups_fault, y) at e }
        on (some f) y = some-none (rw (z, groups_fault, y) at e)

-- The first group matches the first id, and the others match the others.
record FirstMatches (n : ℕ) (ns : List ℕ) (g : ℕ × List ℕ) (gs : List (ℕ × List ℕ)) : Type 0 where
  same : n ≡ g.0
  others : mismatch ns gs ≡ none

first_matches : (n : ℕ) (ns : List ℕ) (g : ℕ × List ℕ) (gs : List (ℕ × List ℕ)) → mismatch (n ∷ ns) (g ∷ gs) ≡ none → FirstMatches n ns g gs
unfolding mismatch
first_matches n ns g gs e =
    bool_cases (eqb n g.0)
    (λ y. record { same = eqb-true n g.0 y; others = rw (y, mismatch) at e })
    (λ m. some-none (rw (m, mismatch) at e))

-- All groups match and are done: with p made true all live clauses are satisfied.
groups_hold : (a : Assignment) (live : Live) → LiveHolds a live → (t : Trail) → AllTrue a t → (p : Literal)
    → (xs : Live) → AllFound live xs → LiveHolds a xs → (gs : List (ℕ × List ℕ))
    → mismatch (containing (opposite p) xs) gs ≡ none → groups_fault live t (opposite p) gs ≡ none → LiveHolds (flip p a) xs
unfolding containing mismatch
groups_hold a live h t ht p [] f hl gs m e = tt
groups_hold a live h t ht p (x ∷ xs) f hl gs m e =
    bool_cases (among (opposite p) x.1) (λ y. go (groups_hold a live h t ht p xs f.1 hl.1) gs (rw (y, containing) at m) e)
    (λ n. (flip-clause a p x.1 (rw (without-none (opposite p) x.1 n) hl.0), groups_hold a live h t ht p xs f.1 hl.1 gs (rw (n, containing) at m) e))
  where
    Goes : Type 0
    Goes = (gs : List (ℕ × List ℕ)) → mismatch (containing (opposite p) xs) gs ≡ none → groups_fault live t (opposite p) gs ≡ none → LiveHolds (flip p a) xs

    go : Goes → (gs : List (ℕ × List ℕ)) → mismatch (x.0 ∷ containing (opposite p) xs) gs ≡ none → groups_fault live t (opposite p) gs ≡ none → LiveHolds (flip p a) (x ∷ xs)
    go ih [] m e = some-none m
    go ih (g ∷ gs) m e =
        let match = first_matches x.0 (containing (opposite p) xs) g gs m in
        let first = first_done live t (opposite p) g gs e in
        let same : x.1 ≡ first.clause = some_inj (sym f.0 ∙ ap (λ (n : ℕ). find n live) match.same ∙ first.found) in
        (flip-clause a p x.1 (rw same (group_holds a live h t ht g.0 (without (opposite p) first.clause) g.1 first.done)), ih gs match.others first.others)

-- Steps

-- An accepted clause: where an assignment satisfies the live clauses, one satisfies them and the clause.
record Extended (live : Live) (k : Clause) : Type 0 where
  to : Assignment
  live-holds : LiveHolds to live
  new_holds : satisfies to k ≡ true

after_extends : (a : Assignment) (live : Live) → AllFound live live → LiveHolds a live → (t : Trail) → AllTrue a t
    → (k : Clause) (gs : List (ℕ × List ℕ)) → after_hints live t k gs ≡ none → Extended live k
unfolding after_hints
after_extends a live f h t ht [] gs e = some-none e
after_extends a live f h t ht (p ∷ k) gs e = go (mismatch (containing (opposite p) live) gs) refl
  where
    go : (r : Option ℕ) → mismatch (containing (opposite p) live) gs ≡ r → Extended live (p ∷ k)
    go none z =
        record {
          to = flip p a;
          live-holds = groups_hold a live h t ht p live f h gs z (rw (z, after_hints) at e);
          new_holds = or_left (holds (flip p a) p) _ (flip-holds a p);
        }
    go (some d) z = some-none (rw (z, after_hints) at e)

hints_extend : (a : Assignment) (live : Live) → AllFound live live → LiveHolds a live → (k : Clause) (hs : List Hint) → hints_fault live k hs ≡ none → Extended live k
unfolding hints_fault
hints_extend a live f h k hs e =
    bool_cases (satisfies a k) (λ y. record { to = a; live-holds = h; new_holds = y })
    (λ n. go (take_hints live (map opposite k) (leading hs)) refl (take_fine a live h (leading hs) (map opposite k) (rw append-nil at (opposites_true a [] tt k n))))
  where
    go : (r : Taken) → take_hints live (map opposite k) (leading hs) ≡ r → FineTaken a (take_hints live (map opposite k) (leading hs)) → Extended live k
    go conflict q x = absurd (rw q at x)
    go (bad_hint g) q x = some-none (rw (q, hints_fault) at e)
    go (hints_end t) q x = after_extends a live f h t (rw q at x) k (groups hs) (rw (q, hints_fault) at e)

addition_extends : (a : Assignment) (live : Live) → AllFound live live → LiveHolds a live
    → (last n : ℕ) (k : Clause) (hs : List Hint) → addition_fault live last n k hs ≡ none → Extended live k
unfolding addition_fault
addition_extends a live f h last n k hs e =
    bool_cases (ltb last n)
    (λ y. bool_cases (has_opposites k)
    (λ z. some-none (rw (y, addition_fault, z) at e))
    (λ m. hints_extend a live f h k hs (rw (y, addition_fault, m) at e)))
    (λ m. some-none (rw (m, addition_fault) at e))

live-append : (a : Assignment) (live : Live) (n : ℕ) (k : Clause) → LiveHolds a live → satisfies a k ≡ true → LiveHolds a (live ++ ((n, k) ∷ []))
live-append a [] n k h e = (e, tt)
live-append a (x ∷ live) n k h e = (h.0, live-append a live n k h.1 e)

remove-holds : (a : Assignment) (n : ℕ) (live : Live) → LiveHolds a live → LiveHolds a (remove n live)
unfolding remove
remove-holds a n [] h = tt
remove-holds a n (x ∷ live) h =
    bool_cases (eqb n x.0)
    (λ y. rw (y, remove) h.1)
    (λ m. rw (m, remove) (h.0, remove-holds a n live h.1))

-- What a step comes to where an assignment satisfies the live clauses: the empty clause is not added, and if it goes on, some
-- assignment satisfies the live clauses then.
abbrev FineJudged : Judged → Type 0
FineJudged (refused g) = Unit {0}
FineJudged adds_empty = ⊥
FineJudged (goes_on s) = (a : Assignment) × LiveHolds a s.live

added_fine : (s : State) (n : ℕ) (k : Clause) → Extended s.live k → FineJudged (added s n k)
added_fine s n [] x = false≢true x.new_holds
added_fine s n (l ∷ k) x = (x.to, live-append x.to s.live n (l ∷ k) x.live-holds x.new_holds)

deletion_fine : (a : Assignment) (ns : List ℕ) (s : State) → LiveHolds a s.live → FineJudged (judge_deletion s ns)
unfolding judge_deletion
deletion_fine a [] s h = (a, h)
deletion_fine a (n ∷ ns) s h =
    go (find n s.live) refl (deletion_fine a ns (record { live = remove n s.live; last = s.last }) (remove-holds a n s.live h))
  where
    go : (r : Option Clause) → find n s.live ≡ r → FineJudged (judge_deletion (record { live = remove n s.live; last = s.last }) ns)
        → FineJudged (judge_deletion s (n ∷ ns))
    go none q ih = rw (q, judge_deletion) tt
    go (some c) q ih = rw (q, judge_deletion) ih

judge_fine : (a : Assignment) (s : State) (step : Step) → Orderly s → LiveHolds a s.live → FineJudged (judge s step)
unfolding judge
judge_fine a s (add n k hs) o h = go (addition_fault s.live s.last n k hs) refl
  where
    go : (r : Option Ground) → addition_fault s.live s.last n k hs ≡ r → FineJudged (judge s (add n k hs))
    go none q = rw (q, judge) (added_fine s n k (addition_extends a s.live (rising_found 0 s.live s.last o.rising) h s.last n k hs q))
    go (some g) q = rw (q, judge) tt
judge_fine a s (delete ns) o h = deletion_fine a ns s h

-- The run

abbrev NotVerified : Ending → Type 0
NotVerified (ends_verified k) = ⊥
NotVerified ends_unreadable_formula = Unit {0}
NotVerified (ends_unreadable_step k) = Unit {0}
NotVerified (ends_refused k g) = Unit {0}
NotVerified (ends_unfinished k) = Unit {0}

-- While an assignment satisfies the live clauses, no run from there verifies.
pub run_sound : (fuel k : ℕ) (s : State) (ts : List Token) → Orderly s → (a : Assignment) → LiveHolds a s.live → NotVerified (run fuel k s ts)
unfolding run
run_sound zero k s ts o a h = tt
run_sound (suc fuel) k s [] o a h = tt
run_sound (suc fuel) k s (t ∷ ts) o a h = go (run_sound fuel) (read_step (t ∷ ts)) refl
  where
    go : ((k : ℕ) (s : State) (ts : List Token) → Orderly s → (a : Assignment) → LiveHolds a s.live → NotVerified (run fuel k s ts))
        → (r : Option (Step × List Token)) → read_step (t ∷ ts) ≡ r → NotVerified (run (suc fuel) k s (t ∷ ts))
    go ih none q = rw (q, run) tt
    go ih (some r) q = on (judge s r.0) refl (judge_fine a s r.0 o h) (judge_orderly s r.0 o)
      where
        on : (j : Judged) → judge s r.0 ≡ j → FineJudged (judge s r.0) → OrderlyJudged (judge s r.0) → NotVerified (run (suc fuel) k s (t ∷ ts))
        on (refused g) z f w = rw (q, run, z) tt
        on adds_empty z f w = absurd (rw z at f)
        on (goes_on s') z f w =
            let b : (b : Assignment) × LiveHolds b s'.live = (rw z at f) in
            rw (q, run, z) (ih (suc k) s' r.1 (rw z at w) b.0 b.1)

numbered-holds : (a : Assignment) (n : ℕ) (cs : List Clause) → satisfies_all a cs ≡ true → LiveHolds a (numbered n cs)
unfolding numbered
numbered-holds a n [] e = tt
numbered-holds a n (c ∷ cs) e = let both = and_both (satisfies a c) (satisfies_all a cs) e in (both.0, numbered-holds a (suc n) cs both.1)

-- A proof that verifies against a formula, whatever its tokens: the formula has no solution.
pub checked_sound : (F : Formula) (ts : List Token) (k : ℕ) → checked F ts ≡ ends_verified k → Unsolvable F
unfolding checked start
checked_sound F ts k e =
    (no_assignment_solves F).1 (λ a s. subst NotVerified e (run_sound (suc (length ts)) 0 (start F) ts (start_orderly F) a (numbered-holds a 0 F.clauses s)))

answer_verified : (e : Ending) (k : ℕ) → answer e ≡ verified k → e ≡ ends_verified k
answer_verified (ends_verified j) k p = let q : j ≡ k = cc in ap ends_verified q
answer_verified ends_unreadable_formula k p = absurd (let z : ◌≡◌ {A = ℕ} 0 1 = cc in omega arith)
answer_verified (ends_unreadable_step j) k p = absurd (let z : ◌≡◌ {A = ℕ} 0 1 = cc in omega arith)
answer_verified (ends_refused j g) k p = absurd (let z : ◌≡◌ {A = ℕ} 0 1 = cc in omega arith)
answer_verified (ends_unfinished j) k p = absurd (let z : ◌≡◌ {A = ℕ} 0 1 = cc in omega arith)

-- A verdict `verified` is right.
pub verdict_sound : (f p : List ℕ) (k : ℕ) → verdict f p ≡ verified k → Refuted f
unfolding verdict ending
verdict_sound f p k e = go (read_formula f) refl
  where
    ended : ending f p ≡ ends_verified k
    ended = answer_verified (ending f p) k e

    go : (r : Option Formula) → read_formula f ≡ r → Refuted f
    go none q = absurd (let y : ends_unreadable_formula ≡ ends_verified k = (rw (q, ending) at ended) in let z : ◌≡◌ {A = ℕ} 0 1 = cc in omega arith)
    go (some F) q = record { formula = F; is_read = q; unsolvable = checked_sound F (tokens p) k (rw (q, ending) at ended) }
