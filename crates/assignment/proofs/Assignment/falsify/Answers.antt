-- `Assignment::falsify` meets its contract: a literal that was false is so still, and another one is marked and written down.
-- Assumes nothing.
use Rattle.assignment.proofs.Marking.{falsified_before, falsified_now}
use Rattle.assignment.proofs.Assignment.falsify.Goals as goal

pub returns-then-self-x-ne0-clause-falls : goal.returns-then-self-x-ne0-clause-falls
returns-then-self-x-ne0-clause-falls c = falsified_before _ _ _ _ c.requires.x_in_bounds c.requires.t_in_bounds c.if-self-x-ne0.true

pub returns-clause-falls : goal.returns-clause-falls
returns-clause-falls c = falsified_now _ _ _ _ c.requires.x_in_bounds c.requires.t_in_bounds c.if-self-x-ne0.false
