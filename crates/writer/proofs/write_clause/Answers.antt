use Rattle.std.proofs.Common.{refl}
use Rattle.writer.proofs.Texts.{going_room, byte_room}
use Rattle.writer.proofs.Clauses.{writing_end, writing_room, writing_space, writing_on, ending-room, ending}
use Rattle.writer.proofs.write_clause.Goals as goal

pub write_literal-next-requires : goal.write_literal-next-requires
write_literal-next-requires c =
    writing_room c.loop-code.invariant c.loop-code-test.true

pub write_byte-place-requires : goal.write_byte-place-requires
write_byte-place-requires c =
    writing_space c.loop-code.invariant c.loop-code-test.true c.write_literal-next.ensures

pub loop-code-preserved : goal.loop-code-preserved
loop-code-preserved c =
    writing_on c.loop-code.invariant c.loop-code-test.true c.write_literal-next.ensures c.write_byte-place.ensures refl

pub write_byte-zero-requires : goal.write_byte-zero-requires
write_byte-zero-requires c =
    byte_room (going_room (writing_end c.loop-code.invariant c.loop-code-test.false))

pub write_byte-end-requires : goal.write_byte-end-requires
write_byte-end-requires c =
    ending-room (writing_end c.loop-code.invariant c.loop-code-test.false) c.write_byte-zero.ensures

pub returns : goal.returns
returns c =
    ending (writing_end c.loop-code.invariant c.loop-code-test.false) c.write_byte-zero.ensures c.loop-code.invariant.counted c.write_byte-end.ensures
