use Rattle.std.proofs.Common.{sym, ◌∙◌}
use Rattle.rules.specs.Text.{is_digit}
use Rattle.rules.proofs.Words.{digit_range}
use Rattle.text.proofs.Numbers.{digits_on, ran_end, ran_long, stops_at}
use Rattle.text.proofs.run.Goals as goal

pub returns-else-is_ascii_digit : goal.returns-else-is_ascii_digit
unfolding is_digit
returns-else-is_ascii_digit c = ran_end _ _ _ _ _ c.loop-i.invariant (stops_at _ _ (sym c.is_ascii_digit.ensures.value ∙ c.if-is_ascii_digit.false))

pub returns-then-v-gt-MOST : goal.returns-then-v-gt-MOST
unfolding is_digit
returns-then-v-gt-MOST c =
    let d = digit_range _ (sym c.is_ascii_digit.ensures.value ∙ c.if-is_ascii_digit.true) in
    rw c.from.ensures (ran_long _ _ _ _ _ c.loop-i.invariant c.loop-i-test.true d.0 d.1 (rw c.from.ensures at c.if-v-gt-MOST.true))

pub loop-i-preserved : goal.loop-i-preserved
unfolding is_digit
loop-i-preserved c =
    let d = digit_range _ (sym c.is_ascii_digit.ensures.value ∙ c.if-is_ascii_digit.true) in
    rw c.from.ensures (digits_on _ _ _ _ _ c.loop-i.invariant c.loop-i-test.true d.0 d.1 (rw c.from.ensures at c.if-v-gt-MOST.false))
