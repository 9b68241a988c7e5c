-- `writer::digits_in` meets its contract. Assumes nothing.
use Rattle.writer.proofs.Digits.{sized_small, sized_tens}
use Rattle.writer.proofs.digits_in.Goals as goal

pub returns-then-v-lt10 : goal.returns-then-v-lt10
returns-then-v-lt10 c = sized_small _ c.if-v-lt10.true

pub returns : goal.returns
returns c = sized_tens _ _ c.ilog10.ensures.power_le c.ilog10.ensures.next_power_gt c.ilog10.ensures.bound
