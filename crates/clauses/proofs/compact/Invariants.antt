-- `clauses::compact` meets its contract. The loop's invariant: what the first k clauses left of themselves is a store that holds
-- the live ones among them, what is behind is as it was, and `passed` counts them. Assumes nothing.
use Rattle.std.proofs.Common.{◌≡◌}
use Rattle.clauses.proofs.Compacting.{Compacting}
use Rattle.clauses.proofs.compact.Given as goal

abbrev pub invariant-loop-k : goal.invariant-loop-k
invariant-loop-k l = Compacting l.initial.heads l.initial.lits l.n l.heads l.lits l.k l.done.n l.done.used l.done.turns × (l.passed ≡ l.k)
