-- `hints::take_one` meets its contract, for each thing that a hint can show. Assumes nothing.
use Rattle.judge.proofs.Taking.{one-not-live, one_conflict, one_neither, one_forcible, one_forces}
use Rattle.judge.proofs.hints.take_one.Goals.{in-None, in-Some-AllFalse, in-Some-Forces, in-Some-Neither}
use Rattle.judge.proofs.hints.take_one.Goals as goal

pub force-value-requires : goal.force-value-requires
force-value-requires c =
    let look = rw c.in-Some-Forces.is at c.in-Some-Forces.field-0-is in
    one_forcible _ _ _ _ _ _ _ _ _ c.hint_under-seen.ensures _ (cc) c.requires.ready c.args.a.now.within

pub returns-clause-takes : goal.returns-clause-takes
returns-clause-takes c = elim c.match-seen.branch [
  | in-None w ↦ rw (w.a-is, w.value-is) (one-not-live _ _ _ _ _ _ _ _ _ c.hint_under-seen.ensures c.args.a.now.within w.in-None.is)
  | in-Some-AllFalse w ↦ let look = rw w.in-Some-AllFalse.is at w.in-Some-AllFalse.field-0-is in rw (w.a-is, w.value-is) (one_conflict _ _ _ _ _ _ _ _ _ c.hint_under-seen.ensures c.args.a.now.within (cc))
  | in-Some-Forces w ↦ let look = rw w.in-Some-Forces.is at w.in-Some-Forces.field-0-is in rw (w.a-is, w.value-is) (one_forces _ _ _ _ _ _ _ _ _ c.hint_under-seen.ensures w.in-Some-Forces.x (cc) _ _ _ _ w.force-value.ensures.forces)
  | in-Some-Neither w ↦ let look = rw w.in-Some-Neither.is at w.in-Some-Neither.field-0-is in rw (w.a-is, w.value-is) (one_neither _ _ _ _ _ _ _ _ _ c.hint_under-seen.ensures c.args.a.now.within (cc))
]
