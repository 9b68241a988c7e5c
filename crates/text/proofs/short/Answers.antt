-- `text::short` meets its contract: one space, a sign or none, and digits with a space behind them. Assumes nothing.
use Rattle.std.proofs.Common.{◌+◌, ◌≤◌, get_or, arith}
use Rattle.text.proofs.Shorts.{sign_by, short_some}
use Rattle.text.proofs.short.Goals as goal

pub returns : goal.returns
returns c =
    let few : (1 ≤ c.before_space-n.result) × (c.before_space-n.result ≤ 7) = grind arith in
    let digit : (49 ≤ get_or c.args.s.now (c.args.at + 1 + c.from-sign.result) 0) × (get_or c.args.s.now (c.args.at + 1 + c.from-sign.result) 0 ≤ 57) = grind arith in
    short_some _ _ (omega (arith, c.if-s-at-lt16.false)) c.if-s-at-ne32.false _ _ _ _ (omega (arith, c.if-s-at-lt16.false)) c.in_ok-w.ensures few.0 few.1
    c.if-s-at-ne32-2.false (sign_by _ _ c.from-sign.ensures) digit.0 digit.1 c.worths-d.ensures
    (c.all_digits.ensures.yes c.if-not-all_digits.false) _ c.number_of.ensures.0
