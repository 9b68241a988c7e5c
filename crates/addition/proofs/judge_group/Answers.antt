-- `judge_group` meets its contract: the clause of the group is found and its group judged there, or it is not live. Assumes
-- nothing.
use Rattle.std.proofs.Common.{arith}
use Rattle.addition.proofs.Grouping.{short_turns, one_bound, one_judged, one_lacks}
use Rattle.addition.proofs.judge_group.Goals as goal

pub overflow_add-turns : goal.overflow_add-turns
overflow_add-turns c =
    let few = short_turns c.args.group.now _ _ c.requires.fit c.lookup-found.ensures.place c.lookup-found.ensures.turns (omega arith) in
    omega arith

pub judge_there-requires-clause-turns_bound : goal.judge_there-requires-clause-turns_bound
judge_there-requires-clause-turns_bound c =
    one_bound _ _ _ c.requires.fit c.lookup-found.ensures.place c.lookup-found.ensures.turns (omega arith)

pub returns-in-Some-clause-judged : goal.returns-in-Some-clause-judged
returns-in-Some-clause-judged c =
    one_judged _ _ _ c.requires.fit c.lookup-found.ensures.place c.lookup-found.ensures.turns (omega arith) c.half-d.ensures.0 c.judge_there.ensures.judged

pub returns-in-None-clause-judged : goal.returns-in-None-clause-judged
returns-in-None-clause-judged c =
    one_lacks _ _ _ c.requires.fit c.lookup-found.ensures.place c.lookup-found.ensures.turns (omega arith) c.half-d.ensures.0 c.args.a.now.within c.in-None.is
