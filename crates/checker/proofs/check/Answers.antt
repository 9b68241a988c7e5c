-- `check` meets its contract. Assumes nothing.
use Rattle.std.proofs.Common.{rules}
use Rattle.checker.proofs.Promising.{promises}
use Rattle.checker.proofs.check.Goals as goal

pub returns : goal.returns
returns c =
    let all = promises _ _ _ _ _ _ _ _ c.cells-used.ensures _ _ c.check_marked.ensures in
    record { exact = all.0; unsolvable = all.1.0; room = all.1.1.0; live = all.1.1.1.0; time = all.1.1.1.1.0; steps = all.1.1.1.1.1; lent = search rules }
