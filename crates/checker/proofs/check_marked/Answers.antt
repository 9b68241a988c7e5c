-- `check_marked` meets its contract, by what reading the formula came to. Assumes nothing.
use Rattle.std.proofs.Common.{arith}
use Rattle.checker.proofs.Answering.{marked_begun, marked_stored, marked-unread}
use Rattle.checker.proofs.check_marked.Goals as goal

pub check_stored-requires : goal.check_stored-requires
check_stored-requires c =
    marked_begun _ c.args.proof.now _ _ c.args.hints.now c.args.marks.now c.args.tape.now _ _ _ c.read.ensures c.read.auto.heads
    c.read.auto.lits _ c.in-Ok.is _ c.clear-cleared.ensures.0 (rw c.clear-cleared.auto.marks c.requires.0) (rw c.clear-cleared.auto.marks c.requires.1)

pub returns-in-Ok : goal.returns-in-Ok
returns-in-Ok c =
    marked_stored _ _ _ _ _ _ _ _ _ _ c.read.ensures c.read.auto.heads c.read.auto.lits _ c.in-Ok.is _ c.clear-cleared.auto.marks _
    c.check_stored.ensures.answer _ _ _ _ (omega (arith, c.clear-cleared.ensures.1, c.requires.1)) c.reading.ensures c.plus-turns.ensures
    c.check_stored.ensures.least c.check_stored.ensures.most

pub returns-in-Err : goal.returns-in-Err
returns-in-Err c =
    marked-unread _ _ _ _ _ _ _ _ _ _ c.read.ensures c.read.auto.heads c.read.auto.lits _ c.in-Err.is _ _ _
    (omega (arith, c.clear-cleared.ensures.1, c.requires.1)) c.reading-in-Err.ensures c.plus.ensures _ c.from.ensures
