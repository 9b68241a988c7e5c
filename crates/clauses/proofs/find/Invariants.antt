-- `clauses::find` meets its contract. The loop's invariant: if a clause among the first n has the id, it is one of the `span`
-- clauses from `base` on; and `span` is what is left of n after `turns` halvings. The measure is `span`. Assumes nothing.
-- What is added to `base` is at most half of `span`.
use Rattle.clauses.proofs.Searching.{Bracket, Halving}
use Rattle.clauses.proofs.find.Given as goal

abbrev pub invariant-loop-span : goal.invariant-loop-span
invariant-loop-span l = Bracket l.heads l.n l.id l.base l.span × Halving l.n l.span l.turns

abbrev pub decreases-loop-span : goal.decreases-loop-span
decreases-loop-span l = l.span
