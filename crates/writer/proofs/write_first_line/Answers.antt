-- `writer::write_first_line` meets its contract: the parts of the line, one behind the other. Assumes nothing.
use Rattle.std.proofs.Common.{refl}
use Rattle.writer.proofs.Texts.{room-first}
use Rattle.writer.proofs.Lines.{line_start_lem, first-room, space_room, second_room, feed-room, line_wrote}
use Rattle.writer.proofs.write_first_line.Goals as goal

pub write_line_start-first-requires : goal.write_line_start-first-requires
write_line_start-first-requires c =
    room-first (line_start_lem _ _) c.requires

pub write_number-space-requires : goal.write_number-space-requires
write_number-space-requires c =
    first-room _ _ c.requires c.write_line_start-first.ensures

pub write_byte-second-requires : goal.write_byte-second-requires
write_byte-second-requires c =
    space_room _ _ c.requires c.write_line_start-first.ensures c.write_number-space.ensures

pub write_number-feed-requires : goal.write_number-feed-requires
write_number-feed-requires c =
    second_room _ _ c.requires c.write_line_start-first.ensures c.write_number-space.ensures c.write_byte-second.ensures

pub write_byte-end-requires : goal.write_byte-end-requires
write_byte-end-requires c =
    feed-room _ _ c.requires c.write_line_start-first.ensures c.write_number-space.ensures c.write_byte-second.ensures c.write_number-feed.ensures

pub returns : goal.returns
returns c =
    line_wrote _ _ c.requires c.write_line_start-first.ensures c.write_number-space.ensures c.write_byte-second.ensures c.write_number-feed.ensures c.write_byte-end.ensures refl
