-- `falsifying::falsify_clause` meets its contract: none of its literals is kept. Assumes nothing.
use Rattle.judge.proofs.Falling.{whole_clause}
use Rattle.judge.proofs.falsifying.falsify_clause.Goals as goal

pub returns-clause-falls : goal.returns-clause-falls
returns-clause-falls c = whole_clause _ _ _ _ _ _ _ _ _ c.falsify_all.ensures.falls
