-- `judge_groups` meets its contract. The loop's invariant: the marks are what they were, and the groups that are left say what all
-- say (`Going`). Assumes nothing.
use Rattle.assignment.specs.Lent.{Same}
use Rattle.addition.specs.Addition.{live_in}
use Rattle.addition.proofs.Grouping.{Going}
use Rattle.addition.proofs.judge_groups.Given as goal

abbrev pub invariant-loop-group : goal.invariant-loop-group
invariant-loop-group l = record {
  going :
      Going (live_in l.view) l.view.lits.now l.hints l.initial.a.marks.now l.initial.a.tape.now l.initial.a.t l.q l.before l.a.marks.now l.a.tape.now l.a.t
      l.group-iterator.rest.now l.turns;
  same : Same l.initial.a l.a;
}
