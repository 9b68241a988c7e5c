-- `groups::examine` meets its contract: the clause is the part of the literals that begins and ends where the heads say.
-- Assumes nothing.
use Rattle.std.proofs.Common.{arith}
use Rattle.groups.proofs.Walking.{examined_deleted, examined_live}
use Rattle.groups.proofs.examine.Goals as goal

pub returns-then-head_at-ne0 : goal.returns-then-head_at-ne0
returns-then-head_at-ne0 c = examined_deleted _ _ _ _ (λ e. omega (arith, c.if-head_at-ne0.true, c.head_at.ensures))

pub returns : goal.returns
returns c =
    examined_live _ _ _ _ c.requires (omega (arith, c.if-head_at-ne0.false, c.head_at.ensures)) _ c.clause-clause.ensures _ c.contains.ensures
