-- `text::positive` meets its contract: the first digit decides whether it can be one, the others are read from there.
-- Assumes nothing.
use Rattle.std.proofs.Common.{◌≡◌, ◌-◌, ◌≤◌, get_or, arith}
use Rattle.text.proofs.Numbers.{positive_past, positive_bad, positive_on}
use Rattle.text.proofs.positive.Goals as goal

pub returns-in_err-b : goal.returns-in_err-b
returns-in_err-b c = rw c.from_residual.ensures (positive_past _ _ c.in_err-b.ensures.lookup.3)

pub returns-then-not-matches : goal.returns-then-not-matches
returns-then-not-matches c =
    let there = c.in_ok-b.ensures.lookup.3 in
    let byte = there.1 0 in
    positive_bad _ _ there.0 (λ h. grind arith)

pub returns : goal.returns
returns c =
    let there = c.in_ok-b.ensures.lookup.3 in
    let byte = there.1 0 in
    let digit : (49 ≤ c.in_ok-b.field-0.now) × (c.in_ok-b.field-0.now ≤ 57) = grind arith in
    let worth : c.from.result ≡ get_or c.args.s.now c.args.at 0 - 48 = omega arith in
    positive_on _ _ _ there.0 (omega (arith, digit.0)) (omega (arith, digit.1)) (rw worth at c.digits_from.ensures)
