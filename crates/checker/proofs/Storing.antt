-- The formula in the store: the variables of its literals, and the state that the run starts from. Assumes nothing.
use Rattle.std.proofs.Common.{ℕ, zero, suc, ◌+◌, ◌-◌, ◌/◌, ◌<◌, ◌≤◌, max, ◌≡◌, Bool, true, false, not, List, [], ◌∷◌, ◌++◌, map, length, get_or, take}
use Rattle.std.proofs.Common.{refl, sym, ap, ◌∙◌, inl, inr, ⊎_elim, arith, get_or-take, length-take-le, get_or-drop}
use borrow.Author.Tests.{not-true, not-false}
use Rattle.std.proofs.Math.Seq.{slice, length-slice}
use Rattle.meaning.specs.Meaning.{Clause, Formula, Within, AllWithin}
use Rattle.rules.specs.Judging.{Live}
use Rattle.rules.specs.Answers.{numbered, start}
use Rattle.clauses.specs.Codes.{literal_of}
use Rattle.clauses.specs.Store.{start_at, clause_at, clauses_of, Holds}
use Rattle.clauses.proofs.Literals.{variable-literal}
use Rattle.clauses.proofs.Numbers.{cut}
use Rattle.clauses.proofs.Entries.{clause_is}
use Rattle.clauses.proofs.Plain.{holds_plain, holds_undeleted}
use Rattle.assignment.specs.Sight.{In}
use Rattle.deletion.specs.Deleting.{state_of}
use Rattle.deletion.proofs.Leavings.{none_dead}
use Rattle.formula.specs.Body.{greatest}
use Rattle.formula.proofs.Greatest.{greatest_above}
use Rattle.stepping.specs.Stepping.{state_at, Keeps}
use Rattle.stepping.specs.declared.Between.{Between}
use Rattle.checker.specs.Promises.{InClause, InClauses, NoMark}
use Rattle.checker.specs.Answering.{HasMarks, Begun}

-- Variables that occur.

in_clause : (xs : List ℕ) (i : ℕ) → i < length xs → InClause (get_or xs i 0 / 2) (map literal_of xs)
in_clause [] i h = absurd (omega arith)
in_clause (x ∷ xs) zero h = inl (variable-literal x)
in_clause (x ∷ xs) (suc i) h = inr (in_clause xs i (omega arith))

in_front : (v : ℕ) (cs ds : List Clause) → InClauses v cs → InClauses v (cs ++ ds)
in_front v [] ds p = absurd p
in_front v (c ∷ cs) ds p = ⊎_elim (λ a. inl a) (λ b. inr (in_front v cs ds b)) p

in_last : (v : ℕ) (cs : List Clause) (c : Clause) → InClause v c → InClauses v (cs ++ (c ∷ []))
in_last v [] c p = inl p
in_last v (d ∷ cs) c p = inr (in_last v cs c p)

-- Every literal in the store stands in one of the clauses.
in_clauses : (heads lits : List ℕ) (n : ℕ) → start_at heads 0 ≡ 0 → ((k : ℕ) → k < n → start_at heads k ≤ start_at heads (k + 1)) → start_at heads n ≤ length lits
    → (i : ℕ) → i < start_at heads n → InClauses (get_or lits i 0 / 2) (clauses_of heads lits n)
unfolding clauses_of
in_clauses heads lits zero b o fits i h = absurd (omega (arith, b))
in_clauses heads lits (suc n) b o fits i h =
    ⊎_elim
    (λ early. in_front (get_or lits i 0 / 2) (clauses_of heads lits n) (clause_at heads lits n ∷ []) (in_clauses heads lits n b (λ k l. o k (omega arith)) (omega (arith, forward)) i early))
    (λ late. in_last (get_or lits i 0 / 2) (clauses_of heads lits n) (clause_at heads lits n) (there (i - start_at heads n) (omega arith)))
    (cut i (start_at heads n))
  where
    next : n + 1 ≡ suc n
    next = omega arith

    forward : start_at heads n ≤ start_at heads (suc n)
    forward = rw next at (o n (omega arith))

    there : (j : ℕ) → i ≡ start_at heads n + j → InClause (get_or lits i 0 / 2) (clause_at heads lits n)
    there j e =
        let long : length (slice (start_at heads n) (start_at heads (suc n)) lits) ≡ start_at heads (suc n) - start_at heads n = length-slice (start_at heads n) (start_at heads (suc n)) lits fits in
        let is : get_or (slice (start_at heads n) (start_at heads (suc n)) lits) j 0 ≡ get_or lits i 0 =
        get_or-drop (start_at heads n) (take (start_at heads (suc n)) lits) j 0 ∙ (ap (λ (k : ℕ). get_or (take (start_at heads (suc n)) lits) k 0) (sym e) ∙ get_or-take (start_at heads (suc n)) lits i 0 h) in
        rw (clause_is heads lits n (start_at heads n) (start_at heads (suc n)) refl (ap (start_at heads) next), ← is)
        (in_clause (slice (start_at heads n) (start_at heads (suc n)) lits) j (omega (arith, long)))

-- The greatest number of a list stands in it.
greatest_stands : (xs : List ℕ) → 1 ≤ length xs → In xs (greatest xs)
unfolding greatest
greatest_stands [] h = absurd (omega arith)
greatest_stands (x ∷ []) h = record { place = 0; inside = omega arith; is = omega arith }
greatest_stands (x ∷ y ∷ xs) h =
    let s = greatest_stands (y ∷ xs) (omega arith) in
    ⊎_elim
    (λ lt. record { place = suc s.place; inside = omega (arith, s.inside); is = s.is ∙ (let z : greatest (y ∷ xs) ≡ max x (greatest (y ∷ xs)) = omega arith in z) })
    (λ ge. record { place = 0; inside = omega arith; is = (let z : x ≡ max x (greatest (y ∷ xs)) = omega arith in z) })
    (cut x (greatest (y ∷ xs)))

-- By the answer.
pub has_no : (marks used top : ℕ) (r : Bool) → HasMarks marks used top r → not r ≡ true → HasMarks marks used top false
has_no marks used top r h e = rw (not-true r e) at h

pub has_all : (marks used top : ℕ) (r : Bool) → HasMarks marks used top r → not r ≡ false → HasMarks marks used top true
has_all marks used top r h e = rw (not-false r e) at h

-- The greatest variable has no mark.
pub no_mark : (heads lits : List ℕ) (n used top cells : ℕ) → top ≡ greatest (take used lits) / 2 → HasMarks cells used top false
    → (F : Formula) → Holds heads lits n used n (numbered 0 F.clauses) → n ≡ length F.clauses → NoMark F cells
no_mark heads lits n used top cells e h F held is_n =
    record { variable = top; occurs = rw (e, ← s.is) occurs; above = h.case.1 }
  where
    long : length (take used lits) ≡ used
    long = length-take-le used lits held.store.fits

    s : In (take used lits) (greatest (take used lits))
    s = greatest_stands (take used lits) (rw long h.case.0)

    inside : s.place < used
    inside = rw long at s.inside

    occurs : InClauses (get_or (take used lits) s.place 0 / 2) F.clauses
    occurs =
        rw (get_or-take used lits s.place 0 inside, ← holds_plain heads lits n used n F.clauses held is_n)
        (in_clauses heads lits n held.store.begins held.store.ordered (rw held.store.ends held.store.fits) s.place (rw held.store.ends inside))

-- The start of the run.
module _ (heads lits marks : List ℕ) (n used top : ℕ) (g : Begun heads lits marks n used top) where
  known : HasMarks (length marks) used top true → (i : ℕ) → i < used → get_or lits i 0 < length marks
  known h i l =
      ⊎_elim
      (λ none. absurd (omega arith))
      (λ more.
      let long : length (take used lits) ≡ used = length-take-le used lits g.holds.store.fits in
      let there : get_or (take used lits) i 0 ≤ greatest (take used lits) = greatest_above (take used lits) i (rw long l) in
      omega (arith, g.is_top, rw (get_or-take used lits i 0 l) at there))
      h.case

  pub begun_keeps : HasMarks (length marks) used top true → (b : Between) → b ≡ record { n = n; used = used; last = n; dead = 0 } → Keeps heads lits marks b
  begun_keeps h b e =
      rw e
      (record {
        tight = record {
          held = record {
            store = g.holds.store;
            counted = none_dead heads n (holds_undeleted heads lits n used n g.formula.clauses g.holds g.is_n);
          };
          half = omega arith;
        };
        known = known h;
        paired = g.paired;
        clear = g.clear;
      })

pub begun_state : (heads lits : List ℕ) (n used : ℕ) (F : Formula) → Holds heads lits n used n (numbered 0 F.clauses) → n ≡ length F.clauses
    → (b : Between) → b ≡ record { n = n; used = used; last = n; dead = 0 } → state_at heads lits b ≡ start F
unfolding start
begun_state heads lits n used F h e b q = rw q (ap (λ (l : Live). state_of l n) h.same ∙ ap (state_of (numbered 0 F.clauses)) e)

-- A variable of a formula within the limits is within them.
within-clause : (n v : ℕ) (c : Clause) → Within n c → InClause v c → v ≤ n
within-clause n v [] w p = absurd p
within-clause n v (l ∷ c) w p = ⊎_elim (λ e. rw (← e) w.1) (λ q. within-clause n v c w.2 q) p

pub within_clauses : (n v : ℕ) (cs : List Clause) → AllWithin n cs → InClauses v cs → v ≤ n
within_clauses n v [] w p = absurd p
within_clauses n v (c ∷ cs) w p = ⊎_elim (λ q. within-clause n v c w.0 q) (λ q. within_clauses n v cs w.1 q) p
