-- `text::skip_digits` meets its contract: what it passes are digits. Assumes nothing.
use Rattle.std.proofs.Common.{rules}
use Rattle.rules.specs.Text.{is_digit}
use Rattle.text.proofs.Numbers.{behind_digits}
use Rattle.text.proofs.skip_digits.Goals as goal

pub returns : goal.returns
unfolding is_digit
returns c = behind_digits _ _ _ c.behind.ensures (λ x r t. search rules)
