-- `feeding::Phase::feed_code` meets its contract: a hint or an id, or the 0 behind the last one. Assumes nothing.
use Rattle.std.proofs.Common.{refl, ap, ◌∙◌, Ok, Err}
use Rattle.std.proofs.lemmas.Result.{err_from_is_err_and}
use Rattle.steps.specs.Feeding.{code_fed}
use Rattle.steps.proofs.Coding.{fed_by}
use Rattle.steps.proofs.feeding.Phase.feed_code.Goals as goal

pub returns-in_err-many : goal.returns-in_err-many
unfolding code_fed
returns-in_err-many c =
    let p = err_from_is_err_and c.from_residual.result c.from_residual.ensures.1 in
    fed_by _ _ _ _ _ _ _ _ refl c.keep.ensures c.in_err-many.was _ _ (p.1 ∙ ap Err p.2)

pub returns-in-Some : goal.returns-in-Some
unfolding code_fed
returns-in-Some c = fed_by _ _ _ _ _ _ _ _ refl c.keep.ensures (c.in_ok-many.was ∙ ap Ok c.in-Some.is) _ _ refl

pub returns-in-None : goal.returns-in-None
unfolding code_fed
returns-in-None c = fed_by _ _ _ _ _ _ _ _ refl c.keep.ensures (c.in_ok-many.was ∙ ap Ok c.in-None.is) _ _ refl
