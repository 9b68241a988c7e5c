-- `undo` meets its contract. The loop's invariant: the marks differ from what they were only at the numbers on the tape from the
-- one at hand on, and `turns` counts those before it (`Undoing`). Assumes nothing.
use Rattle.assignment.proofs.Marking.{Undoing}
use Rattle.assignment.proofs.undo.Given as goal

abbrev pub invariant-loop-i : goal.invariant-loop-i
invariant-loop-i l = Undoing l.initial.marks l.tape l.from l.to l.marks l.i l.turns
