use Rattle.writer.proofs.Filling.{filling_on}
use Rattle.writer.proofs.write_digits.Goals as goal

pub loop-i-preserved : goal.loop-i-preserved
loop-i-preserved c = filling_on c.loop-i.invariant c.loop-i-test.true c.digit.ensures
