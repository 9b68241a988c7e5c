-- Laws of the rules put together: behind the hints of rule 3, the hints themselves, and the clause that is to be added. Assumes
-- nothing.
use Rattle.std.proofs.Common.{ℕ, ◌+◌, ◌-◌, ◌^◌, ◌<◌, ◌≤◌, ◌≡◌, true, false, List, [], ◌∷◌, map, length, take, drop, min, slice_get, Some, None, Result, Ok, Err}
use Rattle.std.proofs.Common.{refl, sym, ap, subst, ◌∙◌, arith, lt-ltb, le-ltb, length-drop, length-take-le}
use Rattle.std.proofs.Math.Option.{none, some}
use Rattle.meaning.specs.Meaning.{Literal, Clause}
use Rattle.rules.specs.Steps.{Hint}
use Rattle.rules.specs.Judging.{Ground as Wrong, id_not_fresh, no_conflict, groups_dont_match, opposite_literals, Live, opposite, containing, mismatch, has_opposites, Trail}
use Rattle.rules.specs.Judging.{Taken, conflict, bad_hint, hints_end, take_hints, leading, groups, groups_fault, after_hints, hints_fault, addition_fault}
use Rattle.clauses.specs.Codes.{literal_of, opposite_code, hint_of}
use Rattle.clauses.specs.Store.{live_of}
use Rattle.clauses.specs.Counting.{Counts}
use Rattle.clauses.specs.Moving.{Stored}
use Rattle.clauses.proofs.Literals.{literal-opposite}
use Rattle.assignment.specs.Marks.{Laid, Undoable, Undone}
use Rattle.assignment.proofs.Marking.{laid_none, laid_join, laid_undoable}
use Rattle.groups.specs.Matching.{GroupAt, NextGroup, AllMatch, OneDiffers, Matches, MatchesCase}
use Rattle.groups.proofs.Hints.{groups-first, leading-first}
use Rattle.groups.proofs.Walking.{walked_few}
use Rattle.judge.specs.Hints.{SaysCase as HintsSay, PassedCase as HintsPassed, Ends, Takes}
use Rattle.judge.specs.Falsifying.{Outcome, PassedCase as FellCase, ClauseCase, FalsifiesClause}
use Rattle.judge.specs.declared.hints.Effect.{Effect}
use Rattle.judge.specs.declared.hints.Effect.TheVariants.{Forced, Conflict}
use Rattle.judge.specs.declared.hints.Fault.{Fault}
use Rattle.judge.specs.declared.hints.Fault.TheVariants.{NotLive, NotForced, TooShort as HintsTooShort}
use Rattle.judge.specs.declared.falsifying.Obstacle.TheVariants.{SomeTrue, TooShort as NoRoom}
use Rattle.addition.specs.Verdicts.{Verdict, Says, failure_of, costs, Fit}
use Rattle.addition.specs.Addition.{ids_of, JudgesGroups, JudgesRest, JudgesHints, Begun, BehindCase, JudgesBehind, Addable, JudgesClause, Judges}
use Rattle.addition.specs.declared.Ground.TheVariants.{IdNotFresh, NoConflict, GroupsDontMatch}
use Rattle.addition.specs.declared.Failure.{Failure}
use Rattle.addition.specs.declared.Failure.TheVariants.{Refused}
use Rattle.addition.proofs.Verdicts.{says_more, passed_few}
use Rattle.addition.proofs.Costs.{costs-add, ready_short, cost-most, ids-long}

-- Rules 4 and 5

module _ (live : Live) (a : Trail) where
  after_empty : (gs : List (ℕ × List ℕ)) → after_hints live a [] gs ≡ some (no_conflict none)
  unfolding after_hints
  after_empty gs = refl

  module _ (p : Literal) (k : Clause) (gs : List (ℕ × List ℕ)) where
    after_differ : (d : ℕ) → mismatch (containing (opposite p) live) gs ≡ some d → after_hints live a (p ∷ k) gs ≡ some (groups_dont_match d)
    unfolding after_hints
    after_differ d e = rw (e, after_hints)

    after_all : mismatch (containing (opposite p) live) gs ≡ none → after_hints live a (p ∷ k) gs ≡ groups_fault live a (opposite p) gs
    unfolding after_hints
    after_all e = rw (e, after_hints)

-- The first number of a list, as the code asks for it.

pub first_some : (xs : List ℕ) (x : ℕ) → slice_get xs 0 ≡ Some x → xs ≡ x ∷ drop 1 xs
first_some [] x e = cc
first_some (y ∷ ys) x e = cc

pub first-none : (xs : List ℕ) → slice_get xs 0 ≡ None → xs ≡ []
first-none [] e = refl
first-none (y ∷ ys) e = cc

-- Behind the last hint of rule 3 a group begins, or nothing is left.
pub group_next : (hints : List ℕ) → GroupAt hints 0 → NextGroup hints 0 0
group_next hints g = record { passed = record { later = omega arith; evens = λ k a b. absurd (omega arith) }; group = g }

pub fit_stored : {heads lits : List ℕ} {n : ℕ} {marks : List ℕ} → Fit heads lits n marks → Stored heads lits n
fit_stored fit = record { used = fit.ready.used; last = fit.ready.last; store = fit.ready.store }

module _ (before : ℕ) (clause hints : List ℕ) {heads lits : List ℕ} {n : ℕ} {marks : List ℕ} (fit : Fit heads lits n marks) where
  abbrev live : Live
  live = live_of heads lits n

  pub rest_empty : {tape : List ℕ} {t : ℕ} → t ≤ length tape → clause ≡ [] → JudgesRest live n lits hints (map literal_of clause) marks tape t before marks tape (Err (Refused NoConflict)) t before
  rest_empty room e = record {
    back = refl;
    stays = refl;
    laid = laid_none _ _ _ room;
    says = λ a s. record { case = rw e (after_empty live a (groups (map hint_of hints))) };
    counted = omega arith;
    bounded = omega arith;
  }

  module _ {first : ℕ} {others : List ℕ} (starts : clause ≡ first ∷ others) {q : ℕ} (is_q : q ≡ opposite_code first) {r : Result (Unit {0}) ℕ} {turns : ℕ} (matches : Matches heads lits n hints 0 q r turns) where
    abbrev p : Literal
    p = literal_of first

    q_is : literal_of q ≡ opposite p
    q_is = ap literal_of is_q ∙ literal-opposite first

    k_is : map literal_of clause ≡ p ∷ map literal_of others
    k_is = ap (map literal_of) starts

    module _ (e : r ≡ Ok tt) where
      all_match : AllMatch heads lits n hints 0 q turns
      all_match = subst (MatchesCase heads lits n hints 0 q turns) e matches.case

      rest_turns : turns ≤ n + length lits + length hints
      rest_turns = walked_few heads lits n hints 0 n (length hints) turns (fit_stored fit) (omega arith) all_match.walked

      rest_groups : (a : Trail) → after_hints live a (map literal_of clause) (groups (map hint_of hints)) ≡ groups_fault live a (literal_of q) (groups (map hint_of hints))
      rest_groups a =
          let none_there : mismatch (containing (opposite p) live) (groups (map hint_of hints)) ≡ none = rw (← q_is) (all_match.is fit.ready.used fit.ready.last live (record { store = fit.ready.store; same = refl })) in
          ap (λ (k : Clause). after_hints live a k (groups (map hint_of hints))) k_is
          ∙ (after_all live a p (map literal_of others) (groups (map hint_of hints)) none_there
          ∙ ap (λ (l : Literal). groups_fault live a l (groups (map hint_of hints))) (sym q_is))

      pub rest_all : {sum : ℕ} → Counts before turns sum → {tape : List ℕ} {t : ℕ} {marks' tape' : List ℕ} {v : Verdict} {t' turns' : ℕ} → JudgesGroups live lits hints marks tape t q sum marks' tape' v t' turns'
          → JudgesRest live n lits hints (map literal_of clause) marks tape t before marks' tape' v t' turns'
      rest_all together j = record {
        back = j.back;
        stays = j.stays;
        laid = j.laid;
        says = λ a s. says_more (rest_groups a) refl (omega arith) (j.says a s);
        counted = omega (arith, j.counted, together.first);
        bounded = omega (arith, j.bounded, rest_turns, together.at_most);
      }

    module _ {id : ℕ} (e : r ≡ Err id) where
      one_differs : OneDiffers heads lits n hints 0 q id turns
      one_differs = subst (MatchesCase heads lits n hints 0 q turns) e matches.case

      rest_few : turns ≤ n + length lits + length hints
      rest_few = walked_few heads lits n hints 0 one_differs.passed one_differs.at turns (fit_stored fit) one_differs.some_of one_differs.walked

      pub rest_differ : {sum : ℕ} → Counts before turns sum → {tape : List ℕ} {t : ℕ} → t ≤ length tape
          → JudgesRest live n lits hints (map literal_of clause) marks tape t before marks tape (Err (Refused (GroupsDontMatch id))) t sum
      rest_differ together room =
          let there : mismatch (containing (opposite p) live) (groups (map hint_of hints)) ≡ some id = rw (← q_is) (one_differs.is fit.ready.used fit.ready.last live (record { store = fit.ready.store; same = refl })) in
          record {
            back = refl;
            stays = refl;
            laid = laid_none _ _ _ room;
            says = λ a s. record { case = ap (λ (k : Clause). after_hints live a k (groups (map hint_of hints))) k_is ∙ after_differ live a p (map literal_of others) (groups (map hint_of hints)) id there };
            counted = together.first;
            bounded = omega (arith, rest_few, together.at_most);
          }

-- Rule 3

module _ (live : Live) (k : Clause) (hs : List Hint) where
  hints_conflict : take_hints live (map opposite k) (leading hs) ≡ conflict → hints_fault live k hs ≡ none
  unfolding hints_fault
  hints_conflict e = rw (e, hints_fault)

  hints_bad : (g : Wrong) → take_hints live (map opposite k) (leading hs) ≡ bad_hint g → hints_fault live k hs ≡ some g
  unfolding hints_fault
  hints_bad g e = rw (e, hints_fault)

  hints_end_lem : (a : Trail) → take_hints live (map opposite k) (leading hs) ≡ hints_end a → hints_fault live k hs ≡ after_hints live a k (groups hs)
  unfolding hints_fault
  hints_end_lem a e = rw (e, hints_fault)

  -- What rule 3 says where one of its hints is at fault.
  hints_wrong : (r : Taken) (marks' : List ℕ) (many room t t' : ℕ) → take_hints live (map opposite k) (leading hs) ≡ r → (f : Fault) → HintsSay r marks' (Err f) → HintsPassed many room t t' (Err f)
      → Says (hints_fault live k hs) room (t + many) (Err (failure_of f))
  hints_wrong r marks' many room t t' e (NotLive h) s p = record { case = hints_bad _ (e ∙ s) }
  hints_wrong r marks' many room t t' e (NotForced h) s p = record { case = hints_bad _ (e ∙ s) }
  hints_wrong r marks' many room t t' e HintsTooShort s p = record { case = omega (arith, p.0, p.1) }

module _ {heads lits : List ℕ} {n : ℕ} {marks : List ℕ} {k : Clause} (begun : Begun heads lits n marks k (Ok tt)) {hints : List ℕ} {from : ℕ} (first : NextGroup hints 0 from)
    {front behind : List ℕ} (is_front : front ≡ take from hints) (is_behind : behind ≡ drop from hints) where
  abbrev now_live : Live
  now_live = live_of heads lits n

  abbrev ids : List ℕ
  ids = ids_of front

  front_long : length front ≡ from
  front_long = ap length is_front ∙ length-take-le from hints first.group.within

  behind-long : length behind ≡ length hints - from
  behind-long = ap length is_behind ∙ length-drop from hints

  module _ {tape : List ℕ} {t : ℕ} {m₁ tape₁ : List ℕ} {how : Result Effect Fault} {t₁ taken : ℕ} (takes : Takes now_live n ids marks tape t m₁ tape₁ how t₁ taken) (long : length heads < 2 ^ 64) where
    abbrev r : Taken
    r = take_hints now_live (map opposite k) ids

    says_there : HintsSay r m₁ how
    says_there = (takes.outcome (map opposite k) (begun.shows refl)).says

    r_is : take_hints now_live (map opposite k) (leading (map hint_of hints)) ≡ r
    r_is = ap (take_hints now_live (map opposite k)) (leading-first hints from first ∙ ap ids_of (sym is_front))

    from_long : length ids ≡ from
    from_long = ids-long front ∙ front_long

    taken_few : length front + taken ≤ costs (length lits) from
    taken_few =
        omega (
          arith,
          (takes.outcome (map opposite k) (begun.shows refl)).most 64 (omega (arith, begun.ready.store.room)),
          cost-most now_live (length lits) (ready_short heads lits n marks begun.ready) ids (map opposite k),
          from_long,
          front_long,
          ap (costs (length lits)) from_long,
        )

    both_costs : costs (length lits) (length hints) ≡ costs (length lits) from + costs (length lits) (length hints - from)
    both_costs = ap (costs (length lits)) (let sum : length hints ≡ from + (length hints - from) = omega (arith, first.group.within) in sum) ∙ costs-add (length lits) from (length hints - from)

    few_there : t₁ ≤ t + from
    few_there = omega (arith, passed_few (length ids) (length tape) t t₁ how takes.passed, from_long)

    module _ {before passed sum : ℕ} (both : Counts before (length front) passed) (all_three : Counts passed taken sum) where
      -- The hints have ended with no conflict.
      module _ {x : Effect} (e : how ≡ Ok x) (is : x ≡ Forced) where
        ends : Ends r m₁
        ends = subst (λ (y : Effect). HintsSay r m₁ (Ok y)) is (subst (HintsSay r m₁) e says_there)

        pub hints_ended : {m₂ tape₂ : List ℕ} {v : Verdict} {t₂ turns : ℕ} → JudgesRest now_live n lits behind k m₁ tape₁ t₁ sum m₂ tape₂ v t₂ turns
            → JudgesHints now_live n lits hints k marks tape t before m₂ tape₂ v t₂ turns
        hints_ended j = record {
          laid = rw (j.back, j.stays) (laid_join _ _ _ _ _ _ _ _ _ takes.laid j.laid);
          few = omega (arith, few_there, first.group.within, j.stays);
          says =
              says_more
              (hints_end_lem now_live k (map hint_of hints) ends.trail (r_is ∙ ends.is)
              ∙ ap (after_hints now_live ends.trail k) (groups-first hints from first ∙ ap (λ (h : List ℕ). groups (map hint_of h)) (sym is_behind)))
              takes.laid.long (omega (arith, few_there, behind-long, first.group.within)) (j.says ends.trail ends.shows);
          counted = omega (arith, j.counted, both.first, all_three.first);
          bounded = omega (arith, j.bounded, ap (costs (length lits)) behind-long, behind-long, both_costs, taken_few, both.at_most, all_three.at_most);
        }

      settled : (v : Verdict) → Says (hints_fault now_live k (map hint_of hints)) (length tape) (t + length ids) v → JudgesHints now_live n lits hints k marks tape t before m₁ tape₁ v t₁ sum
      settled v s = record {
        laid = takes.laid;
        few = omega (arith, few_there, first.group.within);
        says = says_more refl refl (omega (arith, from_long, first.group.within)) s;
        counted = omega (arith, both.first, all_three.first);
        bounded = omega (arith, both_costs, taken_few, both.at_most, all_three.at_most);
      }

      -- They came to a conflict.
      pub hints-fine : {x : Effect} → how ≡ Ok x → x ≡ Conflict → JudgesHints now_live n lits hints k marks tape t before m₁ tape₁ (Ok tt) t₁ sum
      hints-fine e is = settled (Ok tt) (record { case = hints_conflict now_live k (map hint_of hints) (r_is ∙ subst (λ (y : Effect). HintsSay r m₁ (Ok y)) is (subst (HintsSay r m₁) e says_there)) })

      -- One of them is at fault, or there was no room.
      pub hints_at_fault : {f : Fault} → how ≡ Err f → {x : Failure} → x ≡ failure_of f → JudgesHints now_live n lits hints k marks tape t before m₁ tape₁ (Err x) t₁ sum
      hints_at_fault {f} e is =
          rw is
          (settled (Err (failure_of f))
          (hints_wrong now_live k (map hint_of hints) r m₁ (length ids) (length tape) t t₁ r_is f (subst (HintsSay r m₁) e says_there) (subst (HintsPassed (length ids) (length tape) t t₁) e takes.passed)))

-- All rules

module _ (live : Live) (last id : ℕ) (k : Clause) (hs : List Hint) where
  addition_old : id ≤ last → addition_fault live last id k hs ≡ some (id_not_fresh id)
  unfolding addition_fault
  addition_old h = rw (le-ltb last id h, addition_fault)

  module _ (fresh : last < id) where
    addition_opposites : has_opposites k ≡ true → addition_fault live last id k hs ≡ some opposite_literals
    unfolding addition_fault
    addition_opposites e = rw (lt-ltb last id fresh, addition_fault, e)

    addition_hints : has_opposites k ≡ false → addition_fault live last id k hs ≡ hints_fault live k hs
    unfolding addition_fault
    addition_hints e = rw (lt-ltb last id fresh, addition_fault, e)

module _ {heads lits : List ℕ} {n : ℕ} {clause marks : List ℕ} (add : Addable heads lits n clause marks) {tape : List ℕ} {t : ℕ} {m₁ tape₁ : List ℕ} {f : Outcome} {t₁ passed : ℕ}
    (fell : FalsifiesClause clause marks tape t m₁ tape₁ f t₁ passed) where
  abbrev own : Clause
  own = map literal_of clause

  passed_most : (g : Outcome) → FellCase (length clause) (length tape) t₁ passed g → passed ≤ length clause
  passed_most (Ok done) p = omega arith
  passed_most (Err SomeTrue) p = omega arith
  passed_most (Err NoRoom) p = omega (arith, p.0)

  clause_passed : passed ≤ length clause
  clause_passed = passed_most f fell.so_many

  module _ {hints m₂ tape₂ : List ℕ} {v : Verdict} {t₂ turns : ℕ} (j : JudgesBehind (live_of heads lits n) n lits hints own f m₁ tape₁ t₁ (passed + 1) m₂ tape₂ v t₂ turns) where
    both_laid : Laid marks tape t m₂ tape₂ t₂
    both_laid = laid_join marks tape t m₁ tape₁ t₁ m₂ tape₂ t₂ fell.laid j.laid

    pub clause_undoable : Undoable m₂ tape₂ t t₂
    clause_undoable = laid_undoable marks tape t m₂ tape₂ t₂ both_laid

    clause-says : (last id : ℕ) → last < id → (g : Outcome) → ClauseCase own m₁ g → FellCase (length clause) (length tape) t₁ passed g
        → BehindCase (live_of heads lits n) hints own (length tape₁) (t₁ + length lits + length hints) v g
        → Says (addition_fault (live_of heads lits n) last id own (map hint_of hints)) (length tape) (t + (length clause + length hints + length lits)) v
    clause-says last id fresh (Ok done) o p s =
        says_more (addition_hints (live_of heads lits n) last id own (map hint_of hints) fresh o.no_opposites) fell.laid.long (omega (arith, fell.few)) s
    clause-says last id fresh (Err SomeTrue) o p s = rw s (record { case = addition_opposites (live_of heads lits n) last id own (map hint_of hints) fresh o })
    clause-says last id fresh (Err NoRoom) o p s = rw s (record { case = omega (arith, p.0, p.1, fell.few) })

    module _ {m₃ : List ℕ} {t₃ back : ℕ} (undone : Undone m₂ tape₂ t t₂ m₃) (u : t₃ ≡ min t t₂) (b : back ≡ t₂ - t) where
      pub clause_judged : {all : ℕ} → Counts turns back all → JudgesClause (live_of heads lits n) n lits clause hints marks tape t m₃ tape₂ v t₃ all
      clause_judged together = record {
        back = undone.back marks both_laid.differ;
        stays = omega (arith, both_laid.forward);
        kept = both_laid.kept;
        long = both_laid.long;
        says = λ last id fresh. clause-says last id fresh f (fell.outcome add.shows) fell.so_many j.case;
        bounded = omega (arith, j.bounded, j.few, fell.few, clause_passed, together.at_most);
      }

-- The first half of rule 1.
pub addition_stale : {live : Live} {n : ℕ} {lits clause hints : List ℕ} {last id : ℕ} {marks tape : List ℕ} {t : ℕ} → id ≤ last
    → Judges live n lits clause hints last id marks tape t marks tape (Err (Refused (IdNotFresh id))) t 0
addition_stale h = record { back = refl; stays = refl; kept = λ i l. refl; long = refl; says = record { case = addition_old _ _ _ _ _ h }; bounded = omega arith }
