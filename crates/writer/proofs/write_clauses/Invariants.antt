-- `writer::write_clauses` meets its contract. The loop's invariant: the first `done` clauses are written, and what is left to write is the
-- text of the others. Assumes nothing.
use Rattle.writer.proofs.Stored.{WritingAll}
use Rattle.writer.proofs.write_clauses.Given as goal

abbrev pub invariant-loop-done : goal.invariant-loop-done
invariant-loop-done l = WritingAll l.initial.out l.at l.fn.view.heads.now l.fn.view.lits.now l.fn.view.n l.out l.place l.turns l.done
