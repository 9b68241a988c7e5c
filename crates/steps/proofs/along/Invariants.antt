-- `along` meets its contract. The loop's invariant is the contract itself, of the numbers taken so far, and that the place in the
-- slice is behind its end only if it was so at first. Assumes nothing.
use Rattle.std.proofs.Common.{◌≤◌, max, length}
use Rattle.steps.specs.Reading.{Along}
use Rattle.steps.proofs.along.Given as goal

abbrev pub invariant-loop-end : goal.invariant-loop-end
invariant-loop-end l = Along l.s l.from l.first l.limit l.initial.slots l.slots l.next l.end × (l.first ≤ l.end) × (l.end ≤ max (length l.initial.slots) l.first)
