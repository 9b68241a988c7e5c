-- The groups that were judged say what is left to judge, or settle it. Assumes nothing.
use Rattle.std.proofs.Common.{refl, ap, ◌∙◌, rules, tests}
use Rattle.std.proofs.lemmas.List.Sorted.{answers_always}
use Rattle.std.specs.Slice.Iter.{chunk_by_rest}
use Rattle.assignment.proofs.Lending.{same_on}
use Rattle.addition.proofs.Grouping.{goes_on, going_start, going_fit, going_on, going_stop, going_end}
use Rattle.addition.proofs.judge_groups.Goals as goal

pub loop-group-init : goal.loop-group-init
loop-group-init c = record {
  going =
      rw (ap (λ s. chunk_by_rest s) c.into_iter-group-iterator.ensures.into_iter_gives ∙ c.chunk_by-group-items.ensures.rest)
      (going_start c.args.a.now.within c.requires.group_at);
  same = record { marks = refl; tape = refl };
}

pub judge_group-judged-requires-clause-fit : goal.judge_group-judged-requires-clause-fit
judge_group-judged-requires-clause-fit c = going_fit c.loop-group.invariant.going c.requires.fit

pub returns-then-is_err-clause-judged : goal.returns-then-is_err-clause-judged
returns-then-is_err-clause-judged c =
    let cut = c.in-Some.ensures.steps in
    let alone = (cut.2 goes_on (answers_always _ _ _ (λ f a r f' k. search (rules, tests)))).1 in
    going_stop c.loop-group.invariant.going _ _ cut.0 cut.1 alone c.judge_group-judged.ensures.judged c.plus-turns.ensures cc

pub loop-group-preserved : goal.loop-group-preserved
loop-group-preserved c =
    let cut = c.in-Some.ensures.steps in
    let alone = (cut.2 goes_on (answers_always _ _ _ (λ f a r f' k. search (rules, tests)))).1 in
    record {
      going = going_on c.loop-group.invariant.going _ _ cut.0 cut.1 alone c.judge_group-judged.ensures.judged c.plus-turns.ensures cc;
      same = same_on c.loop-group.invariant.same c.judge_group-judged.ensures.same;
    }

pub returns-clause-judged : goal.returns-clause-judged
returns-clause-judged c = going_end c.loop-group.invariant.going c.in-None.ensures.steps.0
