-- `text::word_end` meets its contract: what it passes is the rest of the word. Assumes nothing.
use Rattle.std.proofs.Common.{rules}
use Rattle.text.proofs.Places.{behind_word}
use Rattle.text.proofs.word_end.Goals as goal

pub returns : goal.returns
returns c = behind_word _ _ _ c.behind.ensures (λ x r t. search rules)
