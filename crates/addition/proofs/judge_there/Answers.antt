-- `judge_there` meets its contract: what was marked for the group stands on the tape from where it began on, and is taken back.
-- Assumes nothing.
use Rattle.std.proofs.Common.{arith}
use Rattle.addition.proofs.Grouping.{place_placed, place_known, place_undoable, place_judged}
use Rattle.addition.proofs.judge_there.Goals as goal

pub clause-requires : goal.clause-requires
clause-requires c = place_placed c.requires.fit c.requires.place_of

pub falsify_others-fell-requires-clause-marked : goal.falsify_others-fell-requires-clause-marked
falsify_others-fell-requires-clause-marked c =
    rw c.clause.ensures (place_known c.requires.fit c.requires.place_of)

pub undo-back-requires : goal.undo-back-requires
undo-back-requires c =
    place_undoable _ _ c.requires.fit c.requires.place_of c.clause.ensures c.falsify_others-fell.ensures.falls c.try_hints-tried.ensures.judged

pub returns-clause-judged : goal.returns-clause-judged
returns-clause-judged c =
    rw c.undo-back.ensures.tape
    (place_judged _ _ c.requires.fit c.requires.place_of c.clause.ensures c.falsify_others-fell.ensures.falls c.try_hints-tried.ensures.judged c.args.a.now.within c.requires.turns_bound
    c.undo-back.ensures.back c.undo-back.ensures.t c.undo-back.ensures.turns (omega arith) c.plus.ensures)
