-- `opening::announced` meets its contract: the prefix, the number before the first space behind it, the number behind that
-- space. Assumes nothing.
use Rattle.std.proofs.Common.{rules}
use Rattle.formula.proofs.Headers.{header_off, header_vars, header_clauses, header_both, uncut}
use Rattle.formula.proofs.opening.announced.Goals as goal

pub returns-in_err-numbers : goal.returns-in_err-numbers
returns-in_err-numbers c = rw c.from_residual.ensures (header_off _ c.in_err-numbers.ensures.cases)

pub returns-in_err-vars : goal.returns-in_err-vars
returns-in_err-vars c =
    rw c.from_residual-in_err-vars.ensures
    (header_vars _ _ c.in_ok-numbers.ensures.cases.0 c.in_ok-numbers.ensures.cases.1 _ c.place_of-space.ensures c.in_err-vars.ensures)

pub returns-in_err-clauses : goal.returns-in_err-clauses
returns-in_err-clauses c =
    rw c.from_residual-in_err-clauses.ensures
    (header_clauses _ _ c.in_ok-numbers.ensures.cases.0 c.in_ok-numbers.ensures.cases.1 _ c.place_of-space.ensures _ c.in_ok-vars.ensures _ c.behind.ensures c.in_err-clauses.ensures)

pub returns : goal.returns
returns c =
    header_both _ _ c.in_ok-numbers.ensures.cases.0 (search (rules, uncut, c.in_ok-numbers.ensures.cases.1)) _ c.place_of-space.ensures _ c.in_ok-vars.ensures _ c.behind.ensures _ c.in_ok-clauses.ensures
