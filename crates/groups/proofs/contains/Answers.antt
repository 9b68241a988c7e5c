-- `groups::contains` meets its contract. That all of the clause is looked at is left to the search, so that a mistake in what is looked
-- at is refused for that. Assumes nothing.
use Rattle.std.proofs.Common.{rules}
use Rattle.groups.proofs.Among.{any_found, from_nought, least_nought}
use Rattle.groups.proofs.contains.Goals as goal

pub returns : goal.returns
returns c = search (rules, any_found c.args.x c.args.clause.now, from_nought, least_nought)
