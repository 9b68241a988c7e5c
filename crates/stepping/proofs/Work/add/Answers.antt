-- `Work::add` meets its contract: the literals up to `end` are judged, and an accepted clause becomes live. Assumes nothing.
use Rattle.std.proofs.Common.{rules}
use Rattle.stepping.proofs.Adding.{addable_front, addition_adds}
use Rattle.stepping.proofs.Work.add.Goals as goal

pub judge_addition-judged-requires : goal.judge_addition-judged-requires
judge_addition-judged-requires c = addable_front _ _ _ _ _ _ _ _ c.requires

pub returns-clause-judged : goal.returns-clause-judged
returns-clause-judged c =
    addition_adds _ _ _ _ _ _ _ _ c.requires _ _ _ _ _ _ c.judge_addition-judged.ensures.judged _ _ c.accept.ensures _ (search rules)
