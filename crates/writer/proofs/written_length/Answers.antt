-- `writer::written_length` meets its contract: the first line alone is too long, or the sum says. Assumes nothing.
use Rattle.std.proofs.Common.{refl}
use Rattle.writer.proofs.Sums.{line_too_long, answers}
use Rattle.writer.proofs.written_length.Goals as goal

pub returns-then-room-line : goal.returns-then-room-line
returns-then-room-line c = line_too_long _ _ _ _ c.line_digits-digits.ensures refl refl c.if-room-line.true

pub returns : goal.returns
returns c = answers _ _ _ _ c.line_digits-digits.ensures refl refl _ _ _ c.add_clauses-sum.ensures
