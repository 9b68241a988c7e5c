-- `hints::force` meets its contract: a literal is true once its opposite is marked. Assumes nothing.
use Rattle.std.proofs.Common.{arith}
use Rattle.judge.proofs.Taking.{force_known, force_now}
use Rattle.judge.proofs.hints.force.Goals as goal

pub falsify-requires-clause-x_in_bounds : goal.falsify-requires-clause-x_in_bounds
falsify-requires-clause-x_in_bounds c = omega (arith, force_known _ _ _ _ c.requires _ c.opposite-back.ensures)

pub returns-clause-forces : goal.returns-clause-forces
returns-clause-forces c = force_now _ _ _ _ c.requires _ c.opposite-back.ensures _ _ _ c.falsify.ensures.falls
