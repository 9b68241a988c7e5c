use Rattle.std.proofs.lemmas.Result.{err_from_is_err_and}
use Rattle.formula.proofs.Fillings.{filling_start, filling_done, filling_stop, filling_full, filling_on}
use Rattle.formula.proofs.body.read_clauses.Goals as goal

pub loop-k-init : goal.loop-k-init
loop-k-init c = filling_start _ _ _ _ _ _ c.requires.at_in_bounds c.requires.holds

pub returns-in_err-done : goal.returns-in_err-done
returns-in_err-done c =
    let p = err_from_is_err_and c.from_residual.result c.from_residual.ensures.1 in
    rw (p.1, p.2) (filling_stop _ _ _ _ _ _ _ _ _ _ _ c.loop-k.invariant c.loop-k-test.true _ _ _ c.in_err-done.ensures)

pub returns-in_err-close : goal.returns-in_err-close
returns-in_err-close c =
    let p = err_from_is_err_and c.from_residual-in_err-close.result c.from_residual-in_err-close.ensures.1 in
    rw (p.1, p.2) (filling_full _ _ _ _ _ _ _ _ _ _ _ c.loop-k.invariant c.loop-k-test.true _ _ c.in_ok-done.ensures _ _ c.in_err-close.ensures)

pub loop-k-preserved : goal.loop-k-preserved
loop-k-preserved c = filling_on _ _ _ _ _ _ _ _ _ _ _ c.loop-k.invariant c.loop-k-test.true _ _ c.in_ok-done.ensures _ c.in_ok-close.ensures

pub returns : goal.returns
returns c = record { case = filling_done _ _ _ _ _ _ _ _ _ _ _ c.loop-k.invariant c.loop-k-test.false }
