-- `running::run` meets its contract. The loop's invariant is `Running`: what is left comes to what the whole comes to. The measure
-- is how many tokens are left. Assumes nothing.
use Rattle.std.proofs.Common.{length, drop}
use Rattle.rules.specs.Text.{tokens}
use Rattle.checker.proofs.Runs.{Running}
use Rattle.checker.proofs.running.run.Given as goal

abbrev pub invariant-loop-after : goal.invariant-loop-after
invariant-loop-after l = Running l.proof l.initial.known l.initial.work l.work l.at l.done l.turns l.known

abbrev pub decreases-loop-after : goal.decreases-loop-after
decreases-loop-after l = length (tokens (drop l.at l.proof))
