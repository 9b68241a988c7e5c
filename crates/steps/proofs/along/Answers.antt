use Rattle.std.proofs.Common.{arith}
use Rattle.steps.proofs.Alongs.{along_more}
use Rattle.steps.proofs.along.Goals as goal

pub loop-end-preserved : goal.loop-end-preserved
loop-end-preserved c =
    let l = c.loop-end.invariant in (
      along_more l.0 c.short_at-r.ensures c.if-r-eq0.false c.if-limit-code.false (omega (arith, c.loop-end-test.true, l.0.long)),
      omega (arith, l.1),
      omega (arith, c.loop-end-test.true),
    )
