use Rattle.std.proofs.Common.{refl}
use Rattle.writer.proofs.Sums.{adding_on, adding_over, adding_end}
use Rattle.writer.proofs.add_clause.Goals as goal

pub returns-then-room-total : goal.returns-then-room-total
returns-then-room-total c =
    adding_over c.loop-code.invariant c.loop-code-test.true c.literal_length-bytes.ensures refl c.if-room-total.true

pub loop-code-preserved : goal.loop-code-preserved
loop-code-preserved c =
    adding_on c.loop-code.invariant c.loop-code-test.true c.literal_length-bytes.ensures refl c.if-room-total.false

pub returns : goal.returns
returns c = rw c.then_some.ensures (adding_end c.loop-code.invariant c.loop-code-test.false _ refl)
