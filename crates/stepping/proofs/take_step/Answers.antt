-- `take_step` meets its contract: the step is read, and by what was read it is judged. Assumes nothing.
use Rattle.std.proofs.Common.{arith, rules, ap, Some, ◌∙◌}
use Rattle.stepping.proofs.Spending.{spent_most}
use Rattle.stepping.proofs.Taking.{addition_addable, addition-taken, deletion-taken}
use Rattle.stepping.proofs.Taking.{stopped_taken}
use Rattle.stepping.proofs.take_step.Goals as goal

pub add-requires : goal.add-requires
add-requires c =
    addition_addable _ _ _ _ _ _ _ c.args.work.now.tape.now c.requires.keeps _ _ _ c.read_step.ensures _ _ c.in-Ok.is _ _ _
    (c.in-Some-Addition.is ∙ ap Some (rw c.in-Some-Addition.is at c.in-Some-Addition.field-0-is))

pub returns-in-Some-Addition-clause-step : goal.returns-in-Some-Addition-clause-step
returns-in-Some-Addition-clause-step c =
    rw (c.read.ensures.outcome, c.add.ensures.lits)
    (addition-taken _ _ _ _ _ _ _ _ c.requires.keeps _ _ _ c.read_step.ensures _ _ c.in-Ok.is _ _ _
    (c.in-Some-Addition.is ∙ ap Some (rw c.in-Some-Addition.is at c.in-Some-Addition.field-0-is)) _ _ _ _ c.read.ensures.next
    (spent_most _ _ _ _ _ c.add.ensures.turns c.read.ensures.turns) (omega (arith, c.well_formed.0.1)) _ c.add.ensures.judged)

pub returns-in-Some-Deletion-clause-step : goal.returns-in-Some-Deletion-clause-step
returns-in-Some-Deletion-clause-step c =
    let read = c.read-in-Some-Deletion.ensures in
    rw read.outcome
    (deletion-taken _ _ _ _ _ _ _ _ c.requires.keeps _ _ _ c.read_step.ensures _ _ c.in-Ok.is _
    (c.in-Some-Deletion.is ∙ ap Some (rw c.in-Some-Deletion.is at c.in-Some-Deletion.field-0-is)) _ _ _ _ read.next
    (spent_most _ _ _ _ _ c.delete-deleted.ensures.turns read.turns) (omega (arith, c.well_formed.0.1)) _ c.delete-deleted.ensures.judged)

pub returns-in-Err-clause-step : goal.returns-in-Err-clause-step
returns-in-Err-clause-step c =
    stopped_taken _ _ _ _ _ _ _ _ c.requires.keeps _ _ _ c.read_step.ensures _ c.in-Err.is _ _ _ _ _ _ _ (search rules) c.from.ensures
    c.unread-in-Err.ensures.turns
