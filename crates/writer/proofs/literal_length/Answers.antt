-- `writer::literal_length` meets its contract: the digits, and the sign if there is one. Assumes nothing.
use Rattle.std.proofs.Common.{arith}
use Rattle.writer.proofs.Literals.{literal_size}
use Rattle.writer.proofs.literal_length.Goals as goal

pub returns : goal.returns
returns c =
    let s = literal_size _ c.from.ensures c.digits_in.ensures in
    record { is = omega (arith, s.is); some = omega (arith, s.some); few = omega (arith, s.few) }
