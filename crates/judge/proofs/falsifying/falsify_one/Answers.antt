-- `falsifying::falsify_one` meets its contract: the mark of the opposite says whether the literal is true. Assumes nothing.
use Rattle.std.proofs.Common.{rules}
use Rattle.assignment.proofs.Looking.{one_inside}
use Rattle.judge.proofs.Falling.{one_left_out, one-true, one_short, one_falls}
use Rattle.judge.proofs.falsifying.falsify_one.Goals as goal

pub returns-then-eq-clause-falls : goal.returns-then-eq-clause-falls
returns-then-eq-clause-falls c = one_left_out _ _ _ c.args.x c.args.kept c.args.a.now.within (search rules)

pub bounds-a-opposite : goal.bounds-a-opposite
bounds-a-opposite c = one_inside _ _ c.requires.paired c.requires.x_in_bounds _ c.opposite.ensures

pub returns-then-a-opposite-ne0-clause-falls : goal.returns-then-a-opposite-ne0-clause-falls
returns-then-a-opposite-ne0-clause-falls c =
    one-true _ _ _ c.args.x c.args.kept c.args.a.now.within (search rules) _ c.opposite.ensures c.if-a-opposite-ne0.true

pub returns-then-a-clause-falls : goal.returns-then-a-clause-falls
returns-then-a-clause-falls c = one_short _ _ _ _ _ c.args.a.now.within c.if-a.true

pub returns-clause-falls : goal.returns-clause-falls
returns-clause-falls c =
    one_falls _ _ _ c.args.x c.args.kept c.args.a.now.within (search rules) _ c.opposite.ensures c.if-a-opposite-ne0.false _ _ _ c.falsify.ensures.falls
