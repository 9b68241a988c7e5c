-- `opening::after_comments` meets its contract. The loop's invariant: `at` is behind some comment lines, and what is behind
-- all of them is what is behind those that follow. The measure is what is left of the text. Assumes nothing.
use Rattle.std.proofs.Common.{◌-◌, length}
use Rattle.formula.proofs.Openings.{Passing}
use Rattle.formula.proofs.opening.after_comments.Given as goal

abbrev pub invariant-loop-at : goal.invariant-loop-at
invariant-loop-at l = Passing l.s l.at

abbrev pub decreases-loop-at : goal.decreases-loop-at
decreases-loop-at l = length l.s - l.at
