-- `text::ends_word` meets its contract: past the end, or by the byte that is there. Assumes nothing.
use Rattle.std.proofs.Common.{rules}
use Rattle.text.proofs.Places.{ends_by}
use Rattle.text.proofs.ends_word.Goals as goal

pub returns : goal.returns
returns c = ends_by _ _ _ _ c.get.ensures.lookup c.is_none_or.ensures (λ x t. search rules)
