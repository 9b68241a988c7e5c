use Rattle.std.proofs.Common.{arith}
use Rattle.groups.proofs.Walking.{matching_start, stored_placed, matching_room, matching_counts, matching_on, matching_differs, matching_done}
use Rattle.groups.proofs.match_groups.Goals as goal

pub loop-k-init : goal.loop-k-init
loop-k-init c = matching_start _ _ _ _ _ _ c.requires.next_group

pub pass-passed-requires-clause-placed : goal.pass-passed-requires-clause-placed
pass-passed-requires-clause-placed c = stored_placed _ _ _ c.requires.stored _ c.loop-k-test.true

pub pass-passed-requires-clause-at_bound : goal.pass-passed-requires-clause-at_bound
pass-passed-requires-clause-at_bound c =
    omega (arith, matching_room _ _ _ _ _ _ _ _ _ c.loop-k.invariant c.loop-k-test.true c.requires.stored (omega arith))

pub overflow_add-turns : goal.overflow_add-turns
overflow_add-turns c =
    omega (arith, matching_counts _ _ _ _ _ _ _ _ _ c.loop-k.invariant c.loop-k-test.true c.requires.stored (omega arith) _ _ c.pass-passed.ensures)

pub returns-in-Err : goal.returns-in-Err
returns-in-Err c =
    matching_differs _ _ _ _ _ _ _ _ _ c.loop-k.invariant c.loop-k-test.true _ _ (rw c.in-Err.is at c.pass-passed.ensures)

pub loop-k-preserved : goal.loop-k-preserved
loop-k-preserved c =
    matching_on _ _ _ _ _ _ _ _ _ c.loop-k.invariant c.loop-k-test.true _ _ (rw c.in-Ok.is at c.pass-passed.ensures)

pub returns : goal.returns
returns c = matching_done _ _ _ _ _ _ _ _ _ c.loop-k.invariant _ c.finish.ensures c.loop-k-test.false
