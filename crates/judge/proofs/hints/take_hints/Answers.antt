use Rattle.std.proofs.Common.{arith}
use Rattle.assignment.proofs.Lending.{same_on}
use Rattle.judge.proofs.Taking.{taking_stop, taking_on, taking_end}
use Rattle.judge.proofs.hints.take_hints.Goals as goal

pub returns-then-not-matches-clause-takes : goal.returns-then-not-matches-clause-takes
returns-then-not-matches-clause-takes c =
    taking_stop _ _ _ _ _ _ _ _ _ _ _ _ c.loop-i.invariant.taking c.loop-i-test.true _ c.half-id.ensures.0 _ _ _ _ _ c.take_one-taken.ensures.takes _ c.plus-turns.ensures
    (λ forced. grind arith)

pub loop-i-preserved : goal.loop-i-preserved
loop-i-preserved c = record {
  taking = taking_on _ _ _ _ _ _ _ _ _ _ _ _ c.loop-i.invariant.taking c.loop-i-test.true _ c.half-id.ensures.0 _ _ _ _ _ c.take_one-taken.ensures.takes _ c.plus-turns.ensures (grind arith);
  same = same_on c.loop-i.invariant.same c.take_one-taken.ensures.same;
  ahead = c.peek_at-ahead-in-loop-i.ensures;
}

pub returns-clause-takes : goal.returns-clause-takes
returns-clause-takes c = taking_end _ _ _ _ _ _ _ _ _ _ _ _ c.loop-i.invariant.taking (omega arith)
