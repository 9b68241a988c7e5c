-- `formula::write` meets its contract. Assumes nothing.
use Rattle.formula.proofs.Writings.{write_stored}
use Rattle.formula.proofs.write.Goals as goal

pub returns : goal.returns
returns c = write_stored c.args.formula.now _ _ _ _ _ c.in_ok-stored.ensures _ _ _ c.write_stored.ensures
