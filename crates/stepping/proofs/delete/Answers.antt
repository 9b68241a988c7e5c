-- `delete` meets its contract: all ids were live, and room is given back; or one was not. Assumes nothing.
use Rattle.std.proofs.Common.{arith}
use Rattle.stepping.proofs.Lessening.{more_fits, deleted_more, deleted_on, deleted_turns, deleted_not, deleted_not_turns}
use Rattle.stepping.proofs.delete.Goals as goal

pub returns-in-Err : goal.returns-in-Err
returns-in-Err c =
    let gone = c.delete_all-deleted.ensures in
    record {
      judged = deleted_not _ _ _ _ c.requires _ _ _ _ gone _ c.in-Err.is _ _;
      turns = deleted_not_turns _ _ _ _ c.requires _ _ _ _ gone _ c.in-Err.is;
    }

pub overflow_add-now : goal.overflow_add-now
overflow_add-now c =
    record {
      fits = more_fits _ _ _ _ c.requires _ _ _ _ c.delete_all-deleted.ensures _ c.in_default.is (rw c.delete_all-deleted.auto.heads c.well_formed.0.1) c.well_formed.1.0.1;
    }

pub give_back-back-requires : goal.give_back-back-requires
give_back-back-requires c = deleted_more _ _ _ _ c.requires _ _ _ _ c.delete_all-deleted.ensures _ c.in_default.is

pub returns : goal.returns
returns c =
    let gone = c.delete_all-deleted.ensures in
    record {
      judged = deleted_on _ _ _ _ c.requires _ _ _ _ gone _ c.in_default.is _ _ _ c.give_back-back.ensures.back;
      turns = deleted_turns _ _ _ _ c.requires _ _ _ _ gone _ c.in_default.is _ (omega (arith, c.plus.ensures.at_most, c.give_back-back.ensures.turns));
    }
