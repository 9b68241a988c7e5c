-- `writer::add_clauses` meets its contract. The loop's invariant: the bytes of the first `k` clauses are added, and the sum is within
-- the room. Assumes nothing.
use Rattle.writer.proofs.Sums.{AddingAll}
use Rattle.writer.proofs.add_clauses.Given as goal

abbrev pub invariant-loop-k : goal.invariant-loop-k
invariant-loop-k l = AddingAll l.before l.room l.fn.view.heads.now l.fn.view.lits.now l.fn.view.n l.total l.turns l.k
