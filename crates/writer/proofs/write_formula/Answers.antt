-- `writer::write_formula` meets its contract: the first line, and then the clauses. Assumes nothing.
use Rattle.std.proofs.Common.{refl}
use Rattle.writer.proofs.Texts.{room-first, room_rest}
use Rattle.writer.proofs.Lines.{formula_parts, formula_room, formula_wrote}
use Rattle.writer.proofs.write_formula.Goals as goal

pub write_first_line-line-requires : goal.write_first_line-line-requires
write_first_line-line-requires c =
    room-first (formula_parts _ _ _ _ refl) (formula_room c.requires.vars_in_bounds)

pub write_clauses-rest-requires : goal.write_clauses-rest-requires
write_clauses-rest-requires c = record { formed = c.requires.formed; room = room_rest (formula_parts _ _ _ _ refl) (formula_room c.requires.vars_in_bounds) c.write_first_line-line.ensures.wrote }

pub returns : goal.returns
returns c =
    formula_wrote _ _ _ _ refl c.requires.vars_in_bounds c.write_first_line-line.ensures c.write_clauses-rest.ensures
