-- `writer::write_number` meets its contract for a number of one digit; the check finds the rest. Assumes nothing.
use Rattle.std.proofs.Common.{arith, sym}
use Rattle.writer.proofs.Digits.{decimal_small, length_small}
use Rattle.writer.proofs.write_number.Goals as goal

pub write_byte-requires : goal.write_byte-requires
write_byte-requires c = omega (arith, c.requires.fits, length_small _ c.if-v-lt10.true)

pub returns-then-v-lt10 : goal.returns-then-v-lt10
returns-then-v-lt10 c = rw (decimal_small _ c.if-v-lt10.true, sym c.digit.ensures) c.write_byte.ensures
