use Rattle.std.proofs.Common.{◌+◌, ◌*◌, ◌≡◌, arith, rules, refl}
use Rattle.assignment.proofs.Looking.{looking_start, looking_two, looking_none, looking_below, looking_one, looking_more, turn_inside, turns_past}
use Rattle.assignment.proofs.look_at.Goals as goal

pub loop-k-init : goal.loop-k-init
loop-k-init c = looking_start _ _

pub loop-k-preserved : goal.loop-k-preserved
loop-k-preserved c =
    let inside = turn_inside _ _ _ c.loop-k-test.true refl in
    let next : 2 * c.loop-k.k + 2 ≡ 2 * (c.loop-k.k + 1) = omega arith in
    rw next at (looking_two _ _ _ _ _ c.loop-k.invariant c.requires.marked inside _ c.behind.ensures c.requires.paired _ _ c.counted-first.ensures
    c.latest-middle.ensures _ _ c.counted-second.ensures c.latest-last.ensures)

pub overflow_add-others-in-loop-k : goal.overflow_add-others-in-loop-k
overflow_add-others-in-loop-k c = search rules

pub only_one-requires-clause-x_in_bounds : goal.only_one-requires-clause-x_in_bounds
only_one-requires-clause-x_in_bounds c = looking_below _ _ _ _ _ c.loop-k.invariant c.requires.marked c.in-1.is

pub returns-in-0 : goal.returns-in-0
returns-in-0 c = looking_none _ _ _ _ _ c.loop-k.invariant c.requires.marked (turns_past _ _ _ c.loop-k-test.false refl) c.in-0.is

pub returns-in-1 : goal.returns-in-1
returns-in-1 c = looking_one _ _ _ _ _ c.loop-k.invariant c.requires.marked (turns_past _ _ _ c.loop-k-test.false refl) c.in-1.is _ c.only_one.ensures

pub returns-in_default : goal.returns-in_default
returns-in_default c = looking_more _ _ _ _ _ c.loop-k.invariant c.requires.marked (turns_past _ _ _ c.loop-k-test.false refl) (search rules)
