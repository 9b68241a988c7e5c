-- `formula::read` meets its contract: the comment lines, the line `p cnf V C`, and the rest. Assumes nothing.
use Rattle.formula.proofs.Wholes.{read_unreadable, read_limits, read_rest}
use Rattle.formula.proofs.read.Goals as goal

pub read_rest-requires : goal.read_rest-requires
read_rest-requires c =
    let limits = read_limits c.args.formula.now _ _ c.after_comments-start.ensures c.first-feed.ensures _ c.in-Some.ensures in
    record { feed_in_bounds = c.first-feed.ensures.within; vars_le_max_variable = (limits.variables, limits.clauses) }

pub returns-in-Some : goal.returns-in-Some
returns-in-Some c =
    read_rest c.args.formula.now _ _ c.after_comments-start.ensures c.first-feed.ensures _ c.in-Some.ensures _ _ _ _ _ c.read_rest.ensures

pub returns-in-None : goal.returns-in-None
returns-in-None c = read_unreadable c.args.formula.now _ _ c.after_comments-start.ensures c.first-feed.ensures _ _ _ _ c.in-None.ensures
