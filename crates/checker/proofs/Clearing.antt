-- Cleared marks show the assignment in which nothing has a value, and are ready for a run. Assumes nothing.
use Rattle.std.proofs.Common.{ℕ, ◌%◌, ◌≤◌, ◌≡◌, List, [], arith, length}
use Rattle.rules.specs.Judging.{among}
use Rattle.assignment.specs.Marks.{Shows, Paired}
use Rattle.checker.specs.Answering.{Cleared}

pub cleared_shows : (marks : List ℕ) → Cleared marks → Shows marks []
unfolding among
cleared_shows marks c = record { at = λ x h. c.zero x h }

pub cleared_paired : (marks : List ℕ) → length marks % 2 ≡ 0 → length marks ≤ 33_554_432 → Paired marks
cleared_paired marks e h = record { even = e; small = omega arith }
