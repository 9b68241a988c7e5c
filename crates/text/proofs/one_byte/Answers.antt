-- `text::one_byte` meets its contract. Assumes nothing.
use Rattle.text.proofs.Wordings.{one_then}
use Rattle.text.proofs.one_byte.Goals as goal

pub returns : goal.returns
returns c = one_then _ _ c.requires.0 _ c.requires.1 _ _ c.ends_word.ensures c.then_some.ensures
