-- `text::token_at` meets its contract: behind the blanks the text has ended, or a word begins. Assumes nothing.
use Rattle.std.proofs.Common.{rules}
use Rattle.text.proofs.Places.{skipped}
use Rattle.text.proofs.Wordings.{scans_past, scans_or}
use Rattle.text.proofs.token_at.Goals as goal

pub returns-then-s-p : goal.returns-then-s-p
returns-then-s-p c = scans_past _ _ _ c.skip_blanks-p.ensures c.if-s-p.true

pub word_at-requires : goal.word_at-requires
word_at-requires c = (c.if-s-p.false, skipped _ _ _ c.skip_blanks-p.ensures c.if-s-p.false)

pub returns : goal.returns
returns c = scans_or _ _ _ _ _ c.skip_blanks-p.ensures c.word_at.ensures c.unwrap_or_else.ensures (λ t. search rules)
