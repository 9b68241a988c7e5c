-- `judge_hints` meets its contract: a conflict or a bad hint settles it, else rule 4 does. Assumes nothing.
use Rattle.std.proofs.Common.{arith}
use Rattle.addition.proofs.Adding.{hints-fine, hints_ended, hints_at_fault}
use Rattle.addition.proofs.judge_hints.Goals as goal

pub returns-in-Ok-Conflict-clause-judged : goal.returns-in-Ok-Conflict-clause-judged
returns-in-Ok-Conflict-clause-judged c =
    hints-fine c.requires.begun c.next_group.ensures c.split_at.ensures.front c.split_at.ensures.back c.take_hints-taken.ensures.takes (omega arith)
    c.plus-passed.ensures c.plus-turns.ensures c.in-Ok-Conflict.is (rw c.in-Ok-Conflict.is at c.in-Ok-Conflict.field-0-is)

pub returns-in-Ok-Forced-clause-judged : goal.returns-in-Ok-Forced-clause-judged
returns-in-Ok-Forced-clause-judged c =
    hints_ended c.requires.begun c.next_group.ensures c.split_at.ensures.front c.split_at.ensures.back c.take_hints-taken.ensures.takes (omega arith)
    c.plus-passed.ensures c.plus-turns.ensures c.in-Ok-Forced.is (rw c.in-Ok-Forced.is at c.in-Ok-Forced.field-0-is) c.after_hints.ensures.judged

pub returns-in-Err-clause-judged : goal.returns-in-Err-clause-judged
returns-in-Err-clause-judged c =
    hints_at_fault c.requires.begun c.next_group.ensures c.split_at.ensures.front c.split_at.ensures.back c.take_hints-taken.ensures.takes (omega arith)
    c.plus-passed.ensures c.plus-turns.ensures c.in-Err.is c.from.ensures
