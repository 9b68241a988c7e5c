-- `falsifying::falsify_all` meets its contract. The loop's invariant: the literals so far are false or left out, and those
-- that are left say what all say (`Falling`). Assumes nothing.
use Rattle.assignment.specs.Lent.{Same}
use Rattle.judge.proofs.Falling.{Falling}
use Rattle.judge.proofs.falsifying.falsify_all.Given as goal

abbrev pub invariant-loop-passed : goal.invariant-loop-passed
invariant-loop-passed l = record {
  falling : Falling l.clause l.kept l.initial.a.marks.now l.initial.a.tape.now l.initial.a.t l.a.marks.now l.a.tape.now l.passed l.a.t;
  same : Same l.initial.a l.a;
}
