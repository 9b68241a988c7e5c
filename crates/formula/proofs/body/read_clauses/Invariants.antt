-- `body::read_clauses` meets its contract. The loop's invariant: k clauses are in the store, and what is left says what all
-- says (`Filling`). Assumes nothing.
use Rattle.formula.proofs.Fillings.{Filling}
use Rattle.formula.proofs.body.read_clauses.Given as goal

abbrev pub invariant-loop-k : goal.invariant-loop-k
invariant-loop-k l = Filling l.fn.header.vars l.fn.header.clauses l.s l.at l.initial.heads l.initial.lits l.heads l.lits l.done.next l.done.used l.k
