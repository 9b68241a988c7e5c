-- `after_hints` meets its contract: K is empty, or its groups are not those that they must be, or they are judged. Assumes
-- nothing.
use Rattle.std.proofs.Common.{sym}
use Rattle.addition.proofs.Adding.{first_some, first-none, group_next, fit_stored, rest_empty, rest_all, rest_differ}
use Rattle.addition.proofs.after_hints.Goals as goal

pub match_groups-matched-requires : goal.match_groups-matched-requires
match_groups-matched-requires c = record { stored = fit_stored c.requires.fit; next_group = group_next _ c.requires.group_at }

pub returns-in_default-clause-judged : goal.returns-in_default-clause-judged
returns-in_default-clause-judged c = rest_empty _ _ _ c.requires.fit c.args.a.now.within (first-none _ (sym c.in_default.ensures.value))

pub returns-in-Ok-clause-judged : goal.returns-in-Ok-clause-judged
returns-in-Ok-clause-judged c =
    rest_all _ _ _ c.requires.fit (first_some _ _ (sym c.in-Some.ensures.value)) c.opposite-q.ensures c.match_groups-matched.ensures c.in-Ok.is c.plus-turns.ensures
    c.judge_groups.ensures.judged

pub returns-in-Err-clause-judged : goal.returns-in-Err-clause-judged
returns-in-Err-clause-judged c =
    rest_differ _ _ _ c.requires.fit (first_some _ _ (sym c.in-Some.ensures.value)) c.opposite-q.ensures c.match_groups-matched.ensures c.in-Err.is c.plus-turns.ensures
    c.args.a.now.within
