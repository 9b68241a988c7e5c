-- `writer::write_clause` meets its contract. The loop's invariant: the literals that were passed are written, each with a space, and
-- what is left to write is the text of the others. Assumes nothing.
use Rattle.writer.proofs.Clauses.{Writing}
use Rattle.writer.proofs.write_clause.Given as goal

abbrev pub invariant-loop-code : goal.invariant-loop-code
invariant-loop-code l = Writing l.initial.out l.at l.clause l.out l.place l.turns l.code-index
