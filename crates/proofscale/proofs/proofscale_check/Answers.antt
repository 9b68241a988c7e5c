-- `proofscale_check` meets its contract: the answer of `check` as numbers. Assumes nothing.
use Rattle.proofscale.proofs.Numbering.{check_numbers}
use Rattle.proofscale.proofs.proofscale_check.Goals as goal

pub returns : goal.returns
returns c =
    let says = c.check-checked.ensures in
    let all =
    check_numbers _ _ _ _ _ _ _ _ _ (says.exact, (says.unsolvable, (says.room, (says.live, (says.time, says.steps)))))
    _ _ c.number.ensures c.step.ensures in
    record { exact = all.0; unsolvable = all.1.0; room = all.1.1.0; live = all.1.1.1.0; time = all.1.1.1.1.0; steps = all.1.1.1.1.1 }
