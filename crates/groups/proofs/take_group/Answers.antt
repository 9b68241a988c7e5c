-- `groups::take_group` meets its contract: the group at the place has the id, or the smaller of the two is at fault.
-- Assumes nothing.
use Rattle.std.proofs.Common.{◌/◌, ap, ◌∙◌, arith}
use Rattle.groups.proofs.Walking.{take_none, take_other, take_same}
use Rattle.groups.proofs.take_group.Goals as goal

pub returns-in_default : goal.returns-in_default
returns-in_default c = take_none _ _ c.requires _ c.in_default.ensures.lookup.3

pub returns-then-id-d : goal.returns-then-id-d
returns-then-id-d c =
    let l = c.in-Some.ensures.lookup in
    take_other _ _ c.requires l.3.0 _ (c.half-d.ensures.0 ∙ ap (λ x. x / 2) (l.3.1 0)) _ (λ e. omega (arith, c.if-id-d.true)) _ c.min.ensures

pub returns : goal.returns
returns c =
    let l = c.in-Some.ensures.lookup in
    take_same _ _ c.requires l.3.0 _ (c.half-d.ensures.0 ∙ ap (λ x. x / 2) (l.3.1 0)) _ c.if-id-d.false _ c.next_group.ensures
