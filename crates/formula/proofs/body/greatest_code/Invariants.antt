-- `body::greatest_code` meets its contract. The loop's invariant: `top` is the greatest of the numbers that were passed. Assumes nothing.
use Rattle.std.proofs.Common.{◌≡◌, take}
use Rattle.formula.specs.Body.{greatest}
use Rattle.formula.proofs.body.greatest_code.Given as goal

abbrev pub invariant-loop-l : goal.invariant-loop-l
invariant-loop-l l = l.top ≡ greatest (take l.l-index l.lits)
