use Rattle.std.proofs.Common.{◌*◌, ◌/◌, ◌≤◌, arith}
use Rattle.clauses.proofs.Searching.{bracket_on, halving_on, reached-le}
use Rattle.clauses.proofs.find.Goals as goal

step-le : (c : goal.After-reached) → c.loop-span.span / 2 * c.reached.result ≤ c.loop-span.span / 2
step-le c = rw c.reached.ensures (reached-le _ _ _)

pub overflow_mul-base : goal.overflow_mul-base
overflow_mul-base c = omega (arith, step-le c)

pub overflow_add-base : goal.overflow_add-base
overflow_add-base c = omega (arith, step-le c)

pub loop-span-preserved : goal.loop-span-preserved
loop-span-preserved c = (
  rw (c.reached.ensures, c.head_at.ensures) (bracket_on _ _ _ _ _ c.requires.rising c.loop-span.invariant.0 c.loop-span-test.true),
  halving_on _ _ _ _ c.loop-span.invariant.1 c.loop-span-test.true (omega arith),
)
