-- `writer::write_literal` meets its contract: the number alone, or the sign and then the number. Assumes nothing.
use Rattle.std.proofs.Common.{refl, arith}
use Rattle.writer.proofs.Texts.{wrote_as, room_as, room-first, room_rest, wrote_parts}
use Rattle.writer.proofs.Literals.{positive_text, negative_text}
use Rattle.writer.proofs.write_literal.Goals as goal

pub write_number-requires : goal.write_number-requires
write_number-requires c =
    room_as (positive_text _ (omega (arith, c.if-code-eq0.true)) c.from-variable.ensures) c.requires

pub returns-then-code-eq0 : goal.returns-then-code-eq0
returns-then-code-eq0 c =
    wrote_as (positive_text _ (omega (arith, c.if-code-eq0.true)) c.from-variable.ensures) c.write_number.ensures

pub write_byte-next-requires : goal.write_byte-next-requires
write_byte-next-requires c =
    omega (arith, room-first (negative_text _ c.if-code-eq0.false refl) c.requires)

pub write_number-requires-2 : goal.write_number-requires-2
write_number-requires-2 c =
    room_rest (negative_text _ c.if-code-eq0.false c.from-variable.ensures) c.requires c.write_byte-next.ensures

pub returns : goal.returns
returns c =
    wrote_parts (negative_text _ c.if-code-eq0.false c.from-variable.ensures) c.requires c.write_byte-next.ensures c.write_number-2.ensures
