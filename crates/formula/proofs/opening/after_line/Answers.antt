use Rattle.formula.proofs.Openings.{inside_end, inside_on, inside_feed}
use Rattle.formula.proofs.opening.after_line.Goals as goal

pub returns-then-s-i-eq10 : goal.returns-then-s-i-eq10
returns-then-s-i-eq10 c = inside_feed _ _ _ c.loop-i.invariant c.loop-i-test.true c.if-s-i-eq10.true

pub loop-i-preserved : goal.loop-i-preserved
loop-i-preserved c = inside_on _ _ _ c.loop-i.invariant c.loop-i-test.true c.if-s-i-eq10.false

pub returns : goal.returns
returns c = inside_end _ _ _ c.loop-i.invariant c.loop-i-test.false
