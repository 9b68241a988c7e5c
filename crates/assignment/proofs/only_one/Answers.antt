-- `assignment::only_one` meets its contract: the mark of the opposite says whether the literal is true. Assumes nothing.
use Rattle.assignment.proofs.Looking.{one_inside, one-true, one_forced}
use Rattle.assignment.proofs.only_one.Goals as goal

pub bounds-marks-back : goal.bounds-marks-back
bounds-marks-back c = one_inside _ _ c.requires.paired c.requires.x_in_bounds _ c.opposite-back.ensures

pub returns-then-marks-back-eq0 : goal.returns-then-marks-back-eq0
returns-then-marks-back-eq0 c = one_forced _ _ c.requires.paired c.requires.x_in_bounds _ c.opposite-back.ensures c.if-marks-back-eq0.true

pub returns-else-marks-back-eq0 : goal.returns-else-marks-back-eq0
returns-else-marks-back-eq0 c = one-true _ _ c.requires.paired c.requires.x_in_bounds _ c.opposite-back.ensures c.if-marks-back-eq0.false
