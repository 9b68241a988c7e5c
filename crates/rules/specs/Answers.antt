-- Section 1, the answers: the formula is read first, whole, then step by step.
use Rattle.std.specs.Prelude.{ℕ, zero, suc, ◌≡◌, List, [], ◌∷◌, length}
use Rattle.std.proofs.Math.Option.{Option, none, some}
use Rattle.meaning.specs.Meaning.{Clause, Formula, Unsolvable}
use Rattle.rules.specs.Text.{Token, tokens}
use Rattle.rules.specs.Formula.{read_formula}
use Rattle.rules.specs.Steps.{read_step}
use Rattle.rules.specs.Judging.{Live, Ground, State, refused, adds_empty, goes_on, judge}

-- How a check ends, with the ground of a refusal.
pub data Ending : Type 0 where
  ends_verified : ℕ → Ending
  ends_unreadable_formula : Ending
  ends_unreadable_step : ℕ → Ending
  ends_refused : ℕ → Ground → Ending
  ends_unfinished : ℕ → Ending

-- The table of section 1, but for answer 5. What is said of two files does not depend on the store; a checker whose store is
-- too short may answer 5 in place of this.
pub data Answer : Type 0 where
  verified : ℕ → Answer  -- 0, the step that adds the empty clause
  unreadable_formula : Answer  -- 1
  unreadable_step : ℕ → Answer  -- 2, its number
  refused_step : ℕ → Answer  -- 3, its number
  unfinished : ℕ → Answer  -- 4, the number of steps

-- The numbers of the table.
abbrev pub answer_number : Answer → ℕ
answer_number (verified k) = 0
answer_number unreadable_formula = 1
answer_number (unreadable_step k) = 2
answer_number (refused_step k) = 3
answer_number (unfinished k) = 4

-- What the answer comes with.
abbrev pub answer_step : Answer → Option ℕ
answer_step (verified k) = some k
answer_step unreadable_formula = none
answer_step (unreadable_step k) = some k
answer_step (refused_step k) = some k
answer_step (unfinished k) = some k

-- The answer drops the ground.
abbrev pub answer : Ending → Answer
answer (ends_verified k) = verified k
answer ends_unreadable_formula = unreadable_formula
answer (ends_unreadable_step k) = unreadable_step k
answer (ends_refused k g) = refused_step k
answer (ends_unfinished k) = unfinished k

-- Step by step, where k steps are done: "a step is read whole, then judged, then the next." A step takes at least one token,
-- so with more fuel than tokens the fuel does not run out (`run_fuel` in proofs/).
unfoldable pub run : ℕ → ℕ → State → List Token → Ending
unfolding read_step judge
run zero k s ts = ends_unfinished k
run (suc fuel) k s [] = ends_unfinished k
run (suc fuel) k s (t ∷ ts) =
    elim (read_step (t ∷ ts)) [
      | none ↦ ends_unreadable_step (suc k)
      | some r ↦ elim (judge s r.0) [
        | refused g ↦ ends_refused (suc k) g
        | adds_empty ↦ ends_verified (suc k)
        | goes_on s' ↦ run fuel (suc k) s' r.1
      ]
    ]

-- Clauses with ids n + 1, n + 2 and so on.
unfoldable pub numbered : ℕ → List Clause → Live
numbered n [] = []
numbered n (c ∷ cs) = (suc n, c) ∷ numbered (suc n) cs

-- "The clauses have ids 1 to C in order."
unfoldable pub start : Formula → State
unfolding numbered
start F = record { live = numbered 0 F.clauses; last = length F.clauses }

-- How the check of a proof's tokens against a formula ends.
unfoldable pub checked : Formula → List Token → Ending
unfolding run start
checked F ts = run (suc (length ts)) 0 (start F) ts

-- How the check of two byte strings ends.
unfoldable pub ending : List ℕ → List ℕ → Ending
unfolding read_formula tokens checked
ending f p = elim (read_formula f) [ none ↦ ends_unreadable_formula | some F ↦ checked F (tokens p) ]

-- The verdict of document 01 on a formula's bytes f and a proof's bytes p.
unfoldable pub verdict : List ℕ → List ℕ → Answer
unfolding ending
verdict f p = answer (ending f p)

-- The bytes f spell a formula, and it has no solution: what a verdict "verified" means (`verdict_sound` in proofs/).
pub record Refuted (f : List ℕ) : Type 0 where
  pub formula : Formula
  pub is_read : read_formula f ≡ some formula
  pub unsolvable : Unsolvable formula
