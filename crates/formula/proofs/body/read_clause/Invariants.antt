-- `body::read_clause` meets its contract. The loop's invariant: the literals read so far are stored, and what is left says
-- what all says (`Reading`). The measure is what is left of the text. Assumes nothing.
use Rattle.std.proofs.Common.{◌-◌, length}
use Rattle.formula.proofs.Bodies.{Reading}
use Rattle.formula.proofs.body.read_clause.Given as goal

abbrev pub invariant-loop-l : goal.invariant-loop-l
invariant-loop-l l = Reading l.vars l.s l.fn.from.next l.initial.lits l.fn.from.used l.lits l.i l.w

abbrev pub decreases-loop-l : goal.decreases-loop-l
decreases-loop-l l = length l.s - l.i
