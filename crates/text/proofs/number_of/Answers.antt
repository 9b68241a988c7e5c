-- `text::number_of` meets its contract: pairs of digits, added up, are the digits one after the other. Assumes nothing.
use Rattle.text.proofs.Bytes.{number-said}
use Rattle.std.proofs.Common.{arith}
use Rattle.text.proofs.number_of.Goals as goal

pub returns : goal.returns
returns c = number-said _ (omega (arith, c.ranges.d)) c.requires
