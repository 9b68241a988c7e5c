-- `groups::finish` meets its contract. Assumes nothing.
use Rattle.std.proofs.Common.{◌/◌, ap, ◌∙◌, arith}
use Rattle.groups.proofs.Walking.{finish_more, finish-none}
use Rattle.groups.proofs.finish.Goals as goal

pub returns-in-Some : goal.returns-in-Some
returns-in-Some c =
    let l = c.in-Some.ensures.lookup in
    finish_more _ _ c.requires l.3.0 _ (c.half.ensures.0 ∙ ap (λ x. x / 2) (l.3.1 0))

pub returns-in-None : goal.returns-in-None
returns-in-None c = finish-none _ _ c.requires (omega (arith, c.in-None.ensures.lookup.3))
