-- `formula::read_rest` meets its contract: an empty store, the clauses, the end. Assumes nothing.
use Rattle.std.proofs.Common.{arith}
use Rattle.std.proofs.lemmas.Result.{err_from_is_err_and}
use Rattle.clauses.proofs.Holding.{holds_empty}
use Rattle.formula.proofs.Wholes.{rest_stopped, rest_finished}
use Rattle.formula.proofs.read_rest.Goals as goal

pub read_clauses-requires-clause-holds : goal.read_clauses-requires-clause-holds
read_clauses-requires-clause-holds c = holds_empty _ _ _ (omega (arith, c.if-heads-lt3.false, c.begin.ensures.long)) c.begin.ensures.begins

pub returns-in_err-done : goal.returns-in_err-done
returns-in_err-done c =
    let p = err_from_is_err_and c.from_residual.result c.from_residual.ensures.1 in
    rw (p.1, p.2) (rest_stopped _ _ _ _ _ c.behind-at.ensures c.args.heads.now _ _ c.begin.ensures.long _ _ _ c.in_err-done.ensures)

pub returns : goal.returns
returns c = rest_finished _ _ _ _ _ c.behind-at.ensures c.args.heads.now _ _ c.begin.ensures.long _ _ _ c.in_ok-done.ensures _ c.finish.ensures
