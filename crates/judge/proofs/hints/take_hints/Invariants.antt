-- `hints::take_hints` meets its contract. The loop's invariant: each hint before the i-th forced a literal, which is true now, and
-- the hints from it on come to what all come to (`Taking`); and the peek was for the i-th hint (`Ahead`). Assumes nothing.
use Rattle.clauses.specs.Store.{live_of}
use Rattle.assignment.specs.Lent.{Same}
use Rattle.judge.specs.Hints.{Ahead}
use Rattle.judge.proofs.Taking.{Taking}
use Rattle.judge.proofs.hints.take_hints.Given as goal

abbrev pub invariant-loop-i : goal.invariant-loop-i
invariant-loop-i l = record {
  taking : Taking (live_of l.view.heads.now l.view.lits.now l.view.n) l.view.n l.hints l.initial.a.marks.now l.initial.a.tape.now l.initial.a.t l.a.marks.now l.a.tape.now l.i l.a.t l.turns;
  same : Same l.initial.a l.a;
  ahead : Ahead l.view.heads.now l.view.n l.hints l.i l.ahead;
}
