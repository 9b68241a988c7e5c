-- `groups::match_groups` meets its contract. The loop's invariant: what is left of the clauses and of the groups says what all
-- says, and the turns are counted (`Matching`). Assumes nothing.
use Rattle.groups.proofs.Walking.{Matching}
use Rattle.groups.proofs.match_groups.Given as goal

abbrev pub invariant-loop-k : goal.invariant-loop-k
invariant-loop-k l = Matching l.view.heads.now l.view.lits.now l.view.n l.hints l.from l.q l.k l.at l.turns
