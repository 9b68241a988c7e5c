-- `read_step` meets its contract. The loop's invariant: the tokens up to the place i make the part of a step that the phase
-- and the slices say (`Reading`). The measure is what is left of the text. Assumes nothing.
use Rattle.std.proofs.Common.{◌-◌, length}
use Rattle.steps.specs.Reading.{Reading}
use Rattle.steps.proofs.read_step.Given as goal

abbrev pub invariant-loop-on : goal.invariant-loop-on
invariant-loop-on l = Reading l.cells l.s l.at l.used l.initial.lits l.initial.hints l.lits l.hints l.i l.phase

abbrev pub decreases-loop-on : goal.decreases-loop-on
decreases-loop-on l = length l.s - l.i
