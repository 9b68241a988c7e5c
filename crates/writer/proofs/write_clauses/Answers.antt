use Rattle.std.proofs.Common.{rules}
use Rattle.writer.proofs.Texts.{room_as, counted_as}
use Rattle.writer.proofs.Stored.{formed_placed, stored_text, all_end, all_room, all_on}
use Rattle.writer.proofs.write_clauses.Goals as goal

pub clause-requires : goal.clause-requires
clause-requires c = formed_placed c.loop-done.invariant.formed _ c.loop-done-test.true

pub write_clause-line-requires : goal.write_clause-line-requires
write_clause-line-requires c = room_as (stored_text _ _ _ c.clause.ensures) (all_room c.loop-done.invariant c.loop-done-test.true)

pub loop-done-preserved : goal.loop-done-preserved
loop-done-preserved c = all_on c.loop-done.invariant c.loop-done-test.true (counted_as (stored_text _ _ _ c.clause.ensures) c.write_clause-line.ensures)

pub returns : goal.returns
returns c = all_end c.loop-done.invariant (search rules)
