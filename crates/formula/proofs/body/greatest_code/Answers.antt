use Rattle.formula.proofs.Greatest.{greatest-start, greatest_on}
use Rattle.formula.proofs.body.greatest_code.Goals as goal

pub loop-l-init : goal.loop-l-init
loop-l-init c = greatest-start c.args.lits.now

pub loop-l-preserved : goal.loop-l-preserved
loop-l-preserved c = rw c.max-top.ensures (greatest_on _ _ _ c.loop-l-test.true c.loop-l.invariant)
