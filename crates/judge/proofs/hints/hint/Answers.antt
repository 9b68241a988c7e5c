-- `hints::hint` meets its contract: the clause that is found is looked at, and where none is found none is live. Assumes
-- nothing.
use Rattle.std.proofs.Common.{arith}
use Rattle.judge.proofs.Hinting.{found_lookable, lookable_placed, there_known, hint_some, hint_none}
use Rattle.judge.proofs.hints.hint.Goals as goal

pub clause-clause-requires : goal.clause-clause-requires
clause-clause-requires c =
    let found = c.lookup_at-found.ensures in
    lookable_placed _ _ _ _ (found_lookable _ _ _ _ c.requires.ready _ _ _ found.place found.turns (omega arith) _ c.in-Some.is)

pub look_at-look-requires-clause-marked : goal.look_at-look-requires-clause-marked
look_at-look-requires-clause-marked c =
    let found = c.lookup_at-found.ensures in
    there_known _ _ _ _ (found_lookable _ _ _ _ c.requires.ready _ _ _ found.place found.turns (omega arith) _ c.in-Some.is) _ c.clause-clause.ensures

pub overflow_add-result : goal.overflow_add-result
overflow_add-result c =
    let found = c.lookup_at-found.ensures in
    let h = hint_some _ _ _ _ c.requires.ready _ _ _ found.place found.turns (omega arith) _ c.in-Some.is _ c.clause-clause.ensures _ c.look_at-look.ensures in
    omega arith

pub returns-in-Some : goal.returns-in-Some
returns-in-Some c =
    let found = c.lookup_at-found.ensures in
    hint_some _ _ _ _ c.requires.ready _ _ _ found.place found.turns (omega arith) _ c.in-Some.is _ c.clause-clause.ensures _ c.look_at-look.ensures

pub returns-in-None : goal.returns-in-None
returns-in-None c =
    let found = c.lookup_at-found.ensures in
    hint_none _ _ _ _ c.requires.ready _ _ _ found.place found.turns (omega arith) c.in-None.is
