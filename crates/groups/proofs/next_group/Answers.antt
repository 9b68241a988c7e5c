-- `groups::next_group` meets its contract: a group begins with an odd number. Assumes nothing.
use Rattle.std.proofs.Common.{rules}
use Rattle.std.proofs.lemmas.List.{take_rest}
use Rattle.groups.proofs.Hints.{next_found}
use Rattle.groups.proofs.next_group.Goals as goal

pub returns : goal.returns
returns c =
    next_found c.args.hints.now c.args.from c.unwrap_or.result _ c.requires (take_rest c.args.hints.now c.args.from) (search rules) (search rules) (search rules)
