-- `opening::place_of` meets its contract. Assumes nothing.
use Rattle.std.proofs.Common.{rules}
use Rattle.formula.proofs.Openings.{first_of}
use Rattle.formula.proofs.opening.place_of.Goals as goal

pub returns : goal.returns
returns c = first_of c.args.x c.args.s.now c.unwrap_or.result (search rules) (search rules) (search rules)
