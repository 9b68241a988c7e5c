-- `formula::ended` meets its contract. Assumes nothing.
use Rattle.std.proofs.Common.{rules}
use Rattle.formula.proofs.Wholes.{ended_yes, ended_no}
use Rattle.formula.proofs.ended.Goals as goal

pub returns-in-Nothing : goal.returns-in-Nothing
returns-in-Nothing c = ended_yes _ _ _ _ c.token_at.ensures (search rules)

pub returns-in_default : goal.returns-in_default
returns-in_default c = ended_no _ _ _ _ c.token_at.ensures c.in_default.not-Nothing
