-- `feeding::Phase::feed_literal` meets its contract: a literal, or the 0 behind the literals. Assumes nothing.
use Rattle.std.proofs.Common.{refl, ap, ◌∙◌, Ok, Err}
use Rattle.std.proofs.lemmas.Result.{err_from_is_err_and}
use Rattle.steps.specs.Feeding.{literal_fed}
use Rattle.steps.proofs.Coding.{fed_by}
use Rattle.steps.proofs.feeding.Phase.feed_literal.Goals as goal

pub returns-in_err-end : goal.returns-in_err-end
unfolding literal_fed
returns-in_err-end c =
    let p = err_from_is_err_and c.from_residual.result c.from_residual.ensures.1 in
    fed_by _ _ _ _ _ _ _ _ c.item_of-item.ensures c.keep.ensures c.in_err-end.was _ _ (p.1 ∙ ap Err p.2)

pub returns-in-Some : goal.returns-in-Some
unfolding literal_fed
returns-in-Some c = fed_by _ _ _ _ _ _ _ _ c.item_of-item.ensures c.keep.ensures (c.in_ok-end.was ∙ ap Ok c.in-Some.is) _ _ refl

pub returns-in-None : goal.returns-in-None
unfolding literal_fed
returns-in-None c = fed_by _ _ _ _ _ _ _ _ c.item_of-item.ensures c.keep.ensures (c.in_ok-end.was ∙ ap Ok c.in-None.is) _ _ refl
