-- `give_back` meets its contract: nothing is to be done, or the store is compacted. Assumes nothing.
use Rattle.stepping.proofs.Lessening.{back_moved, back_turns}
use Rattle.stepping.proofs.give_back.Goals as goal

pub returns : goal.returns
returns c = record { back = back_moved _ _ _ c.requires _ _ _ c.compact-left.ensures; turns = back_turns _ _ _ c.requires _ _ _ c.compact-left.ensures _ _ c.note_all-noted.ensures.turns c.plus.ensures }
