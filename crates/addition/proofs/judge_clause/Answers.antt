-- `judge_clause` meets its contract: what was marked stands on the tape, and is taken back. Assumes nothing.
use Rattle.addition.proofs.Adding.{clause_undoable, clause_judged}
use Rattle.addition.proofs.judge_clause.Goals as goal

pub undo-back-requires : goal.undo-back-requires
undo-back-requires c = clause_undoable c.requires c.falsify_clause-fell.ensures.falls c.judge_behind-judged.ensures.judged

pub returns-clause-judged : goal.returns-clause-judged
returns-clause-judged c =
    rw c.undo-back.ensures.tape
    (clause_judged c.requires c.falsify_clause-fell.ensures.falls c.judge_behind-judged.ensures.judged c.undo-back.ensures.back c.undo-back.ensures.t c.undo-back.ensures.turns
    c.plus.ensures)
