-- `text::all_digits` meets its contract: two masks leave nothing of bytes that are at most 9. Assumes nothing.
use Rattle.text.proofs.Bytes.{digits_each, digits-room}
use Rattle.std.proofs.Common.{arith}
use Rattle.text.proofs.all_digits.Goals as goal

pub overflow_add-result : goal.overflow_add-result
overflow_add-result c = record { fits = digits-room _ c.if-d-eq0.true (omega (arith, c.ranges.d)) }

pub returns-then-d-eq0 : goal.returns-then-d-eq0
returns-then-d-eq0 c = digits_each _ c.if-d-eq0.true
