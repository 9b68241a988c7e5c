-- `deletion::delete_one` meets its contract: what is looked up is what is deleted, and a lookup takes at most 63 turns.
-- Assumes nothing.
use Rattle.std.proofs.Common.{arith}
use Rattle.deletion.proofs.Removing.{spent_few, found_removable, found_gone, lacking}
use Rattle.deletion.proofs.delete_one.Goals as goal

pub remove-requires : goal.remove-requires
remove-requires c = found_removable _ _ _ c.requires (omega arith) _ _ c.in-Some.is c.lookup-found.ensures.place

pub overflow_add-turns : goal.overflow_add-turns
overflow_add-turns c = omega (arith, spent_few _ _ _ c.requires (omega arith) _ c.lookup-found.ensures.turns)

pub returns-in-Some : goal.returns-in-Some
returns-in-Some c =
    found_gone _ _ _ c.requires (omega arith) _ _ c.in-Some.is c.lookup-found.ensures.place _ _ c.remove.ensures.after c.remove.ensures.count _
    c.lookup-found.ensures.turns

pub returns-in-None : goal.returns-in-None
returns-in-None c = lacking _ _ _ c.requires (omega arith) _ c.in-None.is c.lookup-found.ensures.place _ c.lookup-found.ensures.turns
