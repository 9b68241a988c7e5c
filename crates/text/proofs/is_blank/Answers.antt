-- `text::is_blank` meets its contract: the four blanks, one test each. Assumes nothing.
use Rattle.std.proofs.Common.{arith}
use Rattle.rules.specs.Text.{is_blank}
use Rattle.text.proofs.is_blank.Goals as goal

pub returns-then-b-eq13 : goal.returns-then-b-eq13
unfolding is_blank
returns-then-b-eq13 c = grind arith

pub returns-else-b-eq13 : goal.returns-else-b-eq13
unfolding is_blank
returns-else-b-eq13 c = grind arith
