-- `judge_addition` meets its contract: the id is not fresh, or the other rules decide. Assumes nothing.
use Rattle.std.proofs.Common.{arith}
use Rattle.addition.proofs.Adding.{addition_stale}
use Rattle.addition.proofs.judge_addition.Goals as goal

pub returns-then-id-last-clause-judged : goal.returns-then-id-last-clause-judged
returns-then-id-last-clause-judged c = addition_stale (omega arith)
