-- `opening::after_line` meets its contract. The loop's invariant: i is still inside the comment line that goes on at `at`. Assumes
-- nothing.
use Rattle.formula.proofs.Openings.{Inside}
use Rattle.formula.proofs.opening.after_line.Given as goal

abbrev pub invariant-loop-i : goal.invariant-loop-i
invariant-loop-i l = Inside l.s l.at l.i
