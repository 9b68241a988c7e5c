use Rattle.std.proofs.Common.{arith}
use Rattle.deletion.proofs.Removing.{taking_fits, taking_on, taking_missing, taking_done}
use Rattle.deletion.proofs.delete_all.Goals as goal

pub overflow_add-dead : goal.overflow_add-dead
overflow_add-dead c =
    omega (
      arith,
      taking_fits _ _ _ _ _ _ _ (omega arith) c.loop-code.invariant c.loop-code-test.true _ c.half-id.ensures.0 _ _ _ c.delete_one-taken.ensures _
          c.plus-turns.ensures _ c.in-Some.is c.half-id.ensures.1 (omega arith),
    )

pub returns-in-None : goal.returns-in-None
returns-in-None c =
    taking_missing _ _ _ _ _ _ _ (omega arith) c.loop-code.invariant c.loop-code-test.true _ c.half-id.ensures.0 _ _ _ c.delete_one-taken.ensures _
    c.plus-turns.ensures c.in-None.is

pub loop-code-preserved : goal.loop-code-preserved
loop-code-preserved c =
    taking_on _ _ _ _ _ _ _ (omega arith) c.loop-code.invariant c.loop-code-test.true _ c.half-id.ensures.0 _ _ _ c.delete_one-taken.ensures _
    c.plus-turns.ensures _ c.in-Some.is

pub returns : goal.returns
returns c = taking_done _ _ _ _ _ _ _ (omega arith) c.loop-code.invariant c.loop-code-test.false
