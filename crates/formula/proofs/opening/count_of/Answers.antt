-- `opening::count_of` meets its contract: the slice is a number if its first word is all of it. Assumes nothing.
use Rattle.std.proofs.Common.{◌∙◌, rules, arith}
use Rattle.formula.proofs.Headers.{count_empty, count_blank, count-part, count_all}
use Rattle.formula.proofs.opening.count_of.Goals as goal

pub returns-in_err-first : goal.returns-in_err-first
returns-in_err-first c = rw c.from_residual.ensures (count_empty _ _ (search rules))

pub returns-then-is_blank : goal.returns-then-is_blank
returns-then-is_blank c = count_blank _ _ (grind arith) (search rules)

pub returns-then-word-s : goal.returns-then-word-s
returns-then-word-s c = count-part _ _ (grind arith) (grind arith) _ _ c.token_at-word.ensures c.if-word-s.true

pub returns : goal.returns
returns c = c.within.ensures ∙ count_all _ _ (search rules) (search rules) _ _ c.token_at-word.ensures c.requires c.if-word-s.false
