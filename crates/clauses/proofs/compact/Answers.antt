use Rattle.std.proofs.Common.{arith, ◌≡◌}
use Rattle.clauses.proofs.Compacting.{compacting_movable, compacting_on, compacting_small, compacting_end}
use Rattle.clauses.proofs.compact.Goals as goal

pub keep-done-requires : goal.keep-done-requires
keep-done-requires c = compacting_movable _ _ _ _ _ c.requires.store _ _ _ _ _ _ c.loop-k.invariant.0 (omega (arith, c.loop-k-test.true))

pub loop-k-preserved : goal.loop-k-preserved
loop-k-preserved c = (
  compacting_on _ _ _ _ _ c.requires.store _ _ _ _ _ _ c.loop-k.invariant.0 (omega (arith, c.loop-k-test.true)) _ _ _ _ _ c.keep-done.ensures,
  omega (arith, c.loop-k.invariant.1),
)

pub overflow_add-done : goal.overflow_add-done
overflow_add-done c =
    let all = compacting_small _ _ _ _ _ c.requires.store _ _ _ _ _ _ c.loop-k.invariant.0 c.well_formed.0.1 c.well_formed.1.0.1 in
    record { fits = omega (arith, all, c.loop-k.invariant.1, c.loop-k.invariant.0.within) }

pub returns : goal.returns
returns c =
    let passed = c.loop-k.invariant.1 in
    let all : c.loop-k.passed ≡ c.args.n = omega (arith, passed, c.loop-k.invariant.0.within, c.loop-k-test.false) in
    rw all (compacting_end _ _ _ _ _ _ _ _ _ c.loop-k.invariant.0 (omega (arith, c.loop-k-test.false)))
