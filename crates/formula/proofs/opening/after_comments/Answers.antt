use Rattle.formula.proofs.Openings.{passing_end, passing_stop, passing_on}
use Rattle.formula.proofs.opening.after_comments.Goals as goal

pub loop-at-preserved : goal.loop-at-preserved
loop-at-preserved c = passing_on _ _ c.loop-at.invariant c.loop-at-test.true _ c.if-s-at-eq99.true c.after_line-at.ensures

pub returns-else-s-at-eq99 : goal.returns-else-s-at-eq99
returns-else-s-at-eq99 c = passing_stop _ _ c.loop-at.invariant c.loop-at-test.true c.if-s-at-eq99.false

pub returns-after-loop-at : goal.returns-after-loop-at
returns-after-loop-at c = passing_end _ _ c.loop-at.invariant c.loop-at-test.false
