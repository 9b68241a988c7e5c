-- `writer::add_clause` meets its contract. The loop's invariant: the bytes of the literals that were passed are added, each with a
-- space, and the sum is within the room. Assumes nothing.
use Rattle.writer.proofs.Sums.{Adding}
use Rattle.writer.proofs.add_clause.Given as goal

abbrev pub invariant-loop-code : goal.invariant-loop-code
invariant-loop-code l = Adding l.before l.room l.clause l.total l.turns l.code-index
