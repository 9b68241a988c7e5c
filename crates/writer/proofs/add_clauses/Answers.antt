use Rattle.writer.proofs.Stored.{formed_placed, stored_text}
use Rattle.writer.proofs.Sums.{summed_as, adding_all_on, adding_all_over, adding_all_end}
use Rattle.writer.proofs.add_clauses.Goals as goal

pub clause-requires : goal.clause-requires
clause-requires c = formed_placed c.loop-k.invariant.formed _ c.loop-k-test.true

pub returns-in-None : goal.returns-in-None
returns-in-None c =
    let line = summed_as _ _ _ _ _ _ _ (stored_text _ _ _ c.clause.ensures) c.add_clause-line.ensures in
    adding_all_over c.loop-k.invariant c.loop-k-test.true (rw c.in-None.is at line)

pub loop-k-preserved : goal.loop-k-preserved
loop-k-preserved c =
    let line = summed_as _ _ _ _ _ _ _ (stored_text _ _ _ c.clause.ensures) c.add_clause-line.ensures in
    adding_all_on c.loop-k.invariant c.loop-k-test.true (rw c.in-Some.is at line)

pub returns : goal.returns
returns c = adding_all_end c.loop-k.invariant c.loop-k-test.false
