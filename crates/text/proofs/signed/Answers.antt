-- `text::signed` meets its contract: the number behind the sign, if there is one. Assumes nothing.
use Rattle.text.proofs.Wordings.{signed_none, signed_minus, signed_plus}
use Rattle.text.proofs.signed.Goals as goal

pub returns-in_err-n : goal.returns-in_err-n
returns-in_err-n c = rw c.from_residual.ensures (signed_none _ _ c.requires.0 _ c.from.ensures c.requires.1 c.in_err-n.ensures)

pub returns-then-negative : goal.returns-then-negative
returns-then-negative c = signed_minus _ _ c.requires.0 _ c.from.ensures _ c.if-negative.true c.in_ok-n.ensures

pub returns-else-negative : goal.returns-else-negative
returns-else-negative c = signed_plus _ _ c.requires.0 _ c.from.ensures _ c.requires.1 c.if-negative.false c.in_ok-n.ensures
