-- `deletion::delete_all` meets its contract. The loop's invariant: the ids so far were taken, and what is left says what all say
-- (`Taking`). Assumes nothing.
use Rattle.deletion.proofs.Removing.{Taking}
use Rattle.deletion.proofs.delete_all.Given as goal

abbrev pub invariant-loop-code : goal.invariant-loop-code
invariant-loop-code l = Taking l.initial.heads l.n l.ids l.heads l.dead l.turns l.code-index
