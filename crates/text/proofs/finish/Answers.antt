-- `text::finish` meets its contract: the word ends, or a byte that is no digit makes it no number. Assumes nothing.
use Rattle.text.proofs.Numbers.{numbered_then}
use Rattle.text.proofs.finish.Goals as goal

pub returns : goal.returns
returns c = numbered_then _ _ _ _ c.requires.le_most c.requires.stops c.ends_word.ensures c.then_some.ensures
