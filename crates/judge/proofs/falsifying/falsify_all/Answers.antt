use Rattle.judge.proofs.Falling.{falling_stop, falling_on, falling_end}
use Rattle.assignment.proofs.Lending.{same_on}
use Rattle.judge.proofs.falsifying.falsify_all.Goals as goal

pub returns-in-Err-clause-falls : goal.returns-in-Err-clause-falls
returns-in-Err-clause-falls c =
    falling_stop _ _ _ _ _ _ _ _ _ c.loop-passed.invariant.falling c.requires.paired c.requires.marked c.loop-passed-test.true _ _ _ _ c.in-Err.ensures.falls

pub loop-passed-preserved : goal.loop-passed-preserved
loop-passed-preserved c = record {
  falling =
      falling_on _ _ _ _ _ _ _ _ _ c.loop-passed.invariant.falling c.requires.paired c.requires.marked c.loop-passed-test.true _ _ _ c.in_default.ensures.falls;
  same = same_on c.loop-passed.invariant.same c.in_default.ensures.same;
}

pub returns-clause-falls : goal.returns-clause-falls
returns-clause-falls c = falling_end _ _ _ _ _ _ _ _ _ c.loop-passed.invariant.falling c.requires.paired c.requires.marked c.loop-passed-test.false
