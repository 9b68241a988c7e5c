-- `writer::line_digits` meets its contract. Assumes nothing.
use Rattle.writer.proofs.Lines.{line_digits}
use Rattle.writer.proofs.line_digits.Goals as goal

pub returns : goal.returns
returns c = line_digits _ _ c.digits_in.ensures c.digits_in-2.ensures
