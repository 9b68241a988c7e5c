-- `assignment::look_at` meets its contract. The loop's invariant: the two numbers that are kept of the literals of the turns before, and the
-- literals from there on, say what the whole clause says (`Looking`). Assumes nothing.
use Rattle.std.proofs.Common.{◌*◌}
use Rattle.assignment.proofs.Looking.{Looking}
use Rattle.assignment.proofs.look_at.Given as goal

abbrev pub invariant-loop-k : goal.invariant-loop-k
invariant-loop-k l = Looking l.clause l.marks l.others l.last (2 * l.k)
