-- `text::eight` meets its contract: the first byte is the lowest. Assumes nothing.
use Rattle.text.proofs.Bytes.{eight_cut}
use Rattle.text.proofs.eight.Goals as goal

pub returns : goal.returns
returns c =
    eight_cut _ _ _ _ _ c.in_ok-bytes.ensures.cases.enough c.in_ok-bytes.ensures.cases.same (λ i. (c.type_inv.s i).fits) c.from_le_bytes.ensures
