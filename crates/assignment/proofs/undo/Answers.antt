use Rattle.std.proofs.Common.{refl}
use Rattle.assignment.proofs.Marking.{undoing_on, undoing_done, undoing_turns}
use Rattle.assignment.proofs.undo.Goals as goal

pub loop-i-preserved : goal.loop-i-preserved
loop-i-preserved c = undoing_on _ _ _ _ _ _ _ c.loop-i.invariant _ refl c.loop-i-test.true

pub returns : goal.returns
returns c = (undoing_done _ _ _ _ _ _ _ c.loop-i.invariant c.loop-i-test.false, undoing_turns _ _ _ _ _ _ _ c.loop-i.invariant c.loop-i-test.false)
