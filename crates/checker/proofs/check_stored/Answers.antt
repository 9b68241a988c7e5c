-- `check_stored` meets its contract: a variable has no mark, or the run decides. Assumes nothing.
use Rattle.std.proofs.Common.{rules, refl, not, ap}
use Rattle.checker.proofs.Storing.{has_no, has_all, begun_keeps}
use Rattle.checker.proofs.Answering.{stored_short, stored_ran}
use Rattle.checker.proofs.check_stored.Goals as goal

pub returns-then-not-has_marks-clause-answer : goal.returns-then-not-has_marks-clause-answer
returns-then-not-has_marks-clause-answer c =
    stored_short _ _ _ _ _ _ _ _ _ c.requires.is_top (has_no _ _ _ _ c.has_marks.ensures (ap not c.if-not-has_marks.true))

pub run-ran-requires : goal.run-ran-requires
run-ran-requires c =
    begun_keeps _ _ _ _ _ _ c.requires (has_all _ _ _ _ c.has_marks.ensures (ap not c.if-not-has_marks.false)) _ refl

pub returns : goal.returns
returns c =
    let all = stored_ran _ _ _ _ _ _ _ _ _ refl _ _ (c.run-ran.ensures.ended, (c.run-ran.ensures.least, c.run-ran.ensures.most)) _ c.from.ensures _ _ _ _ c.note_all-noted.ensures.turns
    c.plus.ensures c.plus-2.ensures in
    record { answer = all.0; least = all.1.0; most = all.1.1; lent = search rules }
