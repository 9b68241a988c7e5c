-- `text::skip_blanks` meets its contract: what it passes are the blanks. Assumes nothing.
use Rattle.text.proofs.Places.{behind_blanks}
use Rattle.text.proofs.skip_blanks.Goals as goal

pub returns : goal.returns
returns c = behind_blanks _ _ _ c.behind.ensures (λ x r t. t)
