-- Laws of taking hints: one hint, and the state between two hints. Assumes nothing.
use Rattle.std.proofs.Common.{ℕ, suc, ◌+◌, ◌-◌, ◌^◌, ◌<◌, ◌≤◌, ◌≡◌, refl, ap, subst, ◌∙◌, List, [], ◌∷◌, map, arith, add-one, length, get_or, drop}
use Rattle.std.proofs.Math.Option.{none, some}
use Rattle.std.proofs.Math.ListN.{length-map}
use Rattle.std.proofs.Math.Seq.{drop-cons}
use Rattle.std.proofs.lemmas.List.{drop_all}
use Rattle.std.specs.Prelude.{Option, Some, None, Result, Ok, Err}
use Rattle.meaning.specs.Meaning.{Literal, Clause}
use Rattle.rules.specs.Judging.{opposite, Live, find, hint_not_live, hint_not_forced, Trail, all_false, forces, neither, look_at, conflict, bad_hint, take_hints}
use Rattle.rules.proofs.Literals.{opposite_twice}
use Rattle.clauses.specs.Codes.{literal_of, opposite_code, half}
use Rattle.clauses.specs.Store.{live_of}
use Rattle.clauses.specs.Counting.{Reaches, Counts}
use Rattle.clauses.proofs.Literals.{literal-opposite}
use Rattle.clauses.proofs.Counting.{reaches_same, reaches_less, reaches_plus}
use Rattle.assignment.specs.Marks.{Shows, Laid, Falsifies}
use Rattle.assignment.proofs.Marking.{laid_none, laid_join, paired_opposite}
use Rattle.assignment.specs.declared.Look.{Look as Sight}
use Rattle.assignment.specs.declared.Look.TheVariants.{AllFalse, Forces, Neither}
use Rattle.judge.specs.Hints.{Ready, SeenForcing, HintCase, Hints, Forcible, ForceCase, ForcesOne, ForcedBy, EffectCase, TakesOne, cost, SaysCase, LeastCase, PassedCase, Takes}
use Rattle.judge.specs.declared.hints.Effect.{Effect}
use Rattle.judge.specs.declared.hints.Effect.TheVariants.{Forced, Conflict}
use Rattle.judge.specs.declared.hints.Fault.{Fault}
use Rattle.judge.specs.declared.hints.Fault.TheVariants.{NotLive, NotForced, TooShort}
use Rattle.judge.proofs.Hinting.{halvings_below}

-- Making a literal true

module _ (marks tape : List ℕ) (t x : ℕ) (f : Forcible marks tape t x) where
  pub force_known : (y : ℕ) → y ≡ opposite_code x → y < length marks
  force_known y e = rw e (paired_opposite marks f.paired x f.known)

  pub force_now : (y : ℕ) → y ≡ opposite_code x → (marks' tape' : List ℕ) (t' : ℕ) → Falsifies marks tape t y marks' tape' t' → ForcesOne marks tape t x marks' tape' (Ok Forced) t'
  force_now y e marks' tape' t' made =
      let same : opposite (literal_of y) ≡ literal_of x = ap (λ (k : ℕ). opposite (literal_of k)) e ∙ (ap opposite (literal-opposite x) ∙ opposite_twice (literal_of x)) in
      record {
        laid = made.laid;
        case = record {
          next = made.new (rw e f.free);
          shows = λ a s. subst (λ (l : Literal). Shows marks' (l ∷ a)) same (made.shows a s);
        };
      }

-- One hint

module _ (heads lits : List ℕ) (n : ℕ) (marks tape : List ℕ) (t id : ℕ) (shown : Option Sight) (turns : ℕ) (h : Hints heads lits n marks id shown turns) where
  case_at : (s : Option Sight) → shown ≡ s → HintCase (live_of heads lits n) marks id h.literals s
  case_at s e = subst (HintCase (live_of heads lits n) marks id h.literals) e h.case

  module _ (within : t ≤ length tape) where
    stands : (effect : Result Effect Fault) → EffectCase (live_of heads lits n) marks tape t id h.literals marks t effect → TakesOne heads lits n marks tape t id marks tape effect t (turns + 1)
    stands effect case = record {
      search = h.search;
      literals = h.literals;
      halvings = h.halvings;
      short = h.short;
      few = h.few;
      counted = omega (arith, h.counted);
      laid = laid_none marks tape t within;
      case = case;
    }

    pub one-not-live : shown ≡ None → TakesOne heads lits n marks tape t id marks tape (Err (NotLive id)) t (turns + 1)
    one-not-live e =
        let case : HintCase (live_of heads lits n) marks id h.literals None = case_at None e in
        stands (Err (NotLive id)) (case.0, case.1, refl, refl)

    pub one_conflict : shown ≡ Some AllFalse → TakesOne heads lits n marks tape t id marks tape (Ok Conflict) t (turns + 1)
    one_conflict e = stands (Ok Conflict) (case_at (Some AllFalse) e, refl)

    pub one_neither : shown ≡ Some Neither → TakesOne heads lits n marks tape t id marks tape (Err (NotForced id)) t (turns + 1)
    one_neither e = stands (Err (NotForced id)) (case_at (Some Neither) e, refl, refl)

  module _ (x : ℕ) (e : shown ≡ Some (Forces x)) where
    forcing : SeenForcing (live_of heads lits n) marks id h.literals x
    forcing = case_at (Some (Forces x)) e

    pub one_forcible : Ready heads lits n marks → t ≤ length tape → Forcible marks tape t x
    one_forcible ready within = record { paired = ready.paired; known = forcing.known; free = forcing.free; within = within }

    effect_case : (marks' : List ℕ) (t' : ℕ) (effect : Result Effect Fault) → ForceCase marks tape t x marks' t' effect → EffectCase (live_of heads lits n) marks tape t id h.literals marks' t' effect
    effect_case marks' t' (Ok Forced) f = record { code = x; seen = forcing; made = f }
    effect_case marks' t' (Ok Conflict) f = absurd f
    effect_case marks' t' (Err (NotLive i)) f = absurd f
    effect_case marks' t' (Err (NotForced i)) f = absurd f
    effect_case marks' t' (Err TooShort) f = record { code = x; seen = forcing; full = f }

    pub one_forces : (marks' tape' : List ℕ) (effect : Result Effect Fault) (t' : ℕ) → ForcesOne marks tape t x marks' tape' effect t'
        → TakesOne heads lits n marks tape t id marks' tape' effect t' (turns + 1)
    one_forces marks' tape' effect t' f = record {
      search = h.search;
      literals = h.literals;
      halvings = h.halvings;
      short = h.short;
      few = h.few;
      counted = omega (arith, h.counted);
      laid = f.laid;
      case = effect_case marks' t' effect f.case;
    }

-- The first of the hints, in the document's terms

module _ (live : Live) (a : Trail) (h : ℕ) (hs : List ℕ) where
  take-not-live : find h live ≡ none → take_hints live a (h ∷ hs) ≡ bad_hint (hint_not_live h)
  unfolding take_hints
  take-not-live e = rw (e, take_hints)

  cost-not-live : (b : ℕ) → find h live ≡ none → cost b live a (h ∷ hs) ≡ suc (b + 0)
  unfolding cost
  cost-not-live b e = rw (e, cost)

  module _ (c : Clause) (e : find h live ≡ some c) where
    take_conflict : look_at a c ≡ all_false → take_hints live a (h ∷ hs) ≡ conflict
    unfolding take_hints
    take_conflict q = rw (e, take_hints, q)

    take_neither : look_at a c ≡ neither → take_hints live a (h ∷ hs) ≡ bad_hint (hint_not_forced h)
    unfolding take_hints
    take_neither q = rw (e, take_hints, q)

    take_forces : (l : Literal) → look_at a c ≡ forces l → take_hints live a (h ∷ hs) ≡ take_hints live (l ∷ a) hs
    unfolding take_hints
    take_forces l q = rw (e, take_hints, q)

    cost_conflict : (b : ℕ) → look_at a c ≡ all_false → cost b live a (h ∷ hs) ≡ suc (b + (length c + 0))
    unfolding cost
    cost_conflict b q = rw (e, cost, q)

    cost_neither : (b : ℕ) → look_at a c ≡ neither → cost b live a (h ∷ hs) ≡ suc (b + (length c + 0))
    unfolding cost
    cost_neither b q = rw (e, cost, q)

    cost_forces : (b : ℕ) (l : Literal) → look_at a c ≡ forces l → cost b live a (h ∷ hs) ≡ suc (b + (length c + cost b live (l ∷ a) hs))
    unfolding cost
    cost_forces b l q = rw (e, cost, q)

-- A hint that is the last.
module _ (live : Live) (marks tape : List ℕ) (t h literals : ℕ) (marks' : List ℕ) (t' : ℕ) where
  module _ (a : Trail) (s : Shows marks a) (hs : List ℕ) where
    stop-says : (e : Result Effect Fault) → EffectCase live marks tape t h literals marks' t' e → (e ≡ Ok Forced → ⊥) → SaysCase (take_hints live a (h ∷ hs)) marks' e
    stop-says (Ok Forced) f d = absurd (d refl)
    stop-says (Ok Conflict) f d = take_conflict live a h hs f.0.clause f.0.found (f.0.says a s)
    stop-says (Err (NotLive i)) f d = rw f.3 (take-not-live live a h hs f.0)
    stop-says (Err (NotForced i)) f d = rw f.2 (take_neither live a h hs f.0.clause f.0.found (f.0.says a s))
    stop-says (Err TooShort) f d = tt

    -- No hint behind this one costs anything.
    stop_least : (turns least : ℕ) → (cost 0 live a (h ∷ hs) ≤ suc literals → Reaches least turns) → (e : Result Effect Fault) → EffectCase live marks tape t h literals marks' t' e
        → (e ≡ Ok Forced → ⊥) → LeastCase least turns e
    stop_least turns least r (Ok Forced) f d = absurd (d refl)
    stop_least turns least r (Ok Conflict) f d = r (omega (arith, cost_conflict live a h hs f.0.clause f.0.found 0 (f.0.says a s), f.0.many))
    stop_least turns least r (Err (NotLive i)) f d = r (omega (arith, cost-not-live live a h hs 0 f.0))
    stop_least turns least r (Err (NotForced i)) f d = r (omega (arith, cost_neither live a h hs f.0.clause f.0.found 0 (f.0.says a s), f.0.many))
    stop_least turns least r (Err TooShort) f d = tt

    -- Each hint costs at least its search and its literals.
    cost_at_least : (b : ℕ) (e : Result Effect Fault) → EffectCase live marks tape t h literals marks' t' e → suc (b + literals) ≤ cost b live a (h ∷ hs)
    cost_at_least b (Ok Forced) f =
        omega (arith, cost_forces live a h hs f.seen.seen.clause f.seen.seen.found b (literal_of f.code) (f.seen.seen.says a s), f.seen.seen.many)
    cost_at_least b (Ok Conflict) f = omega (arith, cost_conflict live a h hs f.0.clause f.0.found b (f.0.says a s), f.0.many)
    cost_at_least b (Err (NotLive i)) f = omega (arith, cost-not-live live a h hs b f.0, f.1)
    cost_at_least b (Err (NotForced i)) f = omega (arith, cost_neither live a h hs f.0.clause f.0.found b (f.0.says a s), f.0.many)
    cost_at_least b (Err TooShort) f =
        omega (arith, cost_forces live a h hs f.seen.seen.clause f.seen.seen.found b (literal_of f.code) (f.seen.seen.says a s), f.seen.seen.many)

  stop_passed : (t₀ many : ℕ) → t < t₀ + many → (e : Result Effect Fault) → EffectCase live marks tape t h literals marks' t' e → (e ≡ Ok Forced → ⊥) → PassedCase many (length tape) t₀ t' e
  stop_passed t₀ many l (Ok Forced) f d = absurd (d refl)
  stop_passed t₀ many l (Ok Conflict) f d = omega (arith, f.1)
  stop_passed t₀ many l (Err (NotLive i)) f d = omega (arith, f.2)
  stop_passed t₀ many l (Err (NotForced i)) f d = omega (arith, f.1)
  stop_passed t₀ many l (Err TooShort) f d = (omega (arith, f.full.stays), omega (arith, f.full.full, f.full.stays))

-- The ids of the hints from the i-th on.
abbrev ids_from : List ℕ → ℕ → List ℕ
ids_from hints i = map half (drop i hints)

ids-cons : (hints : List ℕ) (i : ℕ) → i < length hints → ids_from hints i ≡ half (get_or hints i 0) ∷ ids_from hints (i + 1)
ids-cons hints i h = ap (map half) (drop-cons hints i 0 h) ∙ rw (add-one i)

-- The state between two hints: under the assignment now, the hints that are left come to what all come to.
pub record Left (live : Live) (n : ℕ) (hints : List ℕ) (a : Trail) (marks : List ℕ) (i turns : ℕ) : Type 0 where
  pub now : Trail
  pub shows : Shows marks now
  pub same : take_hints live a (map half hints) ≡ take_hints live now (ids_from hints i)
  pub least : Reaches (cost 0 live a (map half hints) - cost 0 live now (ids_from hints i)) turns
  pub most : (b : ℕ) → n ≤ 2 ^ b → turns + cost b live now (ids_from hints i) ≤ cost b live a (map half hints)

pub record Taking (live : Live) (n : ℕ) (hints : List ℕ) (marks₀ tape₀ : List ℕ) (t₀ : ℕ) (marks tape : List ℕ) (i t turns : ℕ) : Type 0 where
  pub laid : Laid marks₀ tape₀ t₀ marks tape t
  pub moved : t ≡ t₀ + i
  pub left : (a : Trail) → Shows marks₀ a → Left live n hints a marks i turns

-- As many marks, so the store can still be looked at.
pub ready_again : (heads lits : List ℕ) (n : ℕ) (marks marks' : List ℕ) → Ready heads lits n marks → length marks' ≡ length marks → Ready heads lits n marks'
ready_again heads lits n marks marks' r e = record {
  used = r.used;
  last = r.last;
  store = r.store;
  known = λ i l. rw e (r.known i l);
  paired = record { even = rw e r.paired.even; small = rw e r.paired.small };
}

module _ (heads lits : List ℕ) (n : ℕ) (hints marks₀ tape₀ : List ℕ) (t₀ : ℕ) (marks tape : List ℕ) (i t turns : ℕ)
    (k : Taking (live_of heads lits n) n hints marks₀ tape₀ t₀ marks tape i t turns) where
  abbrev live : Live
  live = live_of heads lits n

  pub taking_end : i ≡ length hints → Takes live n (map half hints) marks₀ tape₀ t₀ marks tape (Ok Forced) t turns
  unfolding take_hints cost
  taking_end e =
      let none : ids_from hints i ≡ [] = ap (map half) (drop_all i hints (omega arith)) in
      record {
        laid = k.laid;
        passed = omega (arith, k.moved, length-map hints half);
        outcome = λ a s.
            let l = k.left a s in
            record {
              says = record { trail = l.now; is = l.same ∙ ap (take_hints live l.now) none; shows = l.shows };
              least = reaches_less (cost 0 live a (map half hints)) (cost 0 live a (map half hints) - cost 0 live l.now (ids_from hints i)) turns turns (omega (arith, ap (cost 0 live l.now) none)) (omega arith) l.least;
              most = λ b m. omega (arith, l.most b m);
            };
      }

  module _ (more : i < length hints) (id : ℕ) (is_id : id ≡ half (get_or hints i 0)) (marks' tape' : List ℕ) (effect : Result Effect Fault) (t' turns' : ℕ)
      (one : TakesOne heads lits n marks tape t id marks' tape' effect t' turns') (sum : ℕ) (together : Counts turns turns' sum) where
    ids : ids_from hints i ≡ id ∷ ids_from hints (i + 1)
    ids = rw is_id (ids-cons hints i more)

    -- The turns before this hint and its own reach together what they make up of all.
    least_now : (a : Trail) → (l : Left live n hints a marks i turns) → (least : ℕ) → least ≤ cost 0 live a (map half hints) - cost 0 live l.now (id ∷ ids_from hints (i + 1)) + turns' → Reaches least sum
    least_now a l least h =
        reaches_less least (cost 0 live a (map half hints) - cost 0 live l.now (ids_from hints i) + turns') sum sum (omega (arith, ap (cost 0 live l.now) ids)) (omega arith)
        (reaches_plus (cost 0 live a (map half hints) - cost 0 live l.now (ids_from hints i)) turns' turns turns' sum l.least (reaches_same turns') together)

    most_now : (a : Trail) → (l : Left live n hints a marks i turns) → (b : ℕ) → n ≤ 2 ^ b → turns + cost b live l.now (id ∷ ids_from hints (i + 1)) ≤ cost b live a (map half hints)
    most_now a l b m = omega (arith, l.most b m, ap (cost b live l.now) ids)

    same_now : (a : Trail) → (l : Left live n hints a marks i turns) → take_hints live a (map half hints) ≡ take_hints live l.now (id ∷ ids_from hints (i + 1))
    same_now a l = l.same ∙ ap (take_hints live l.now) ids

    laid_both : Laid marks₀ tape₀ t₀ marks' tape' t'
    laid_both = laid_join marks₀ tape₀ t₀ marks tape t marks' tape' t' k.laid one.laid

    -- The last hint.
    pub taking_stop : (effect ≡ Ok Forced → ⊥) → Takes live n (map half hints) marks₀ tape₀ t₀ marks' tape' effect t' sum
    taking_stop d = record {
      laid = laid_both;
      passed = rw (← k.laid.long) (stop_passed live marks tape t id one.literals marks' t' t₀ (length (map half hints)) (omega (arith, length-map hints half, k.moved)) effect one.case d);
      outcome = λ a s.
          let l = k.left a s in
          record {
            says = rw (same_now a l) (stop-says live marks tape t id one.literals marks' t' l.now l.shows (ids_from hints (i + 1)) effect one.case d);
            least = stop_least live marks tape t id one.literals marks' t' l.now l.shows (ids_from hints (i + 1)) sum (cost 0 live a (map half hints))
                (λ few. least_now a l (cost 0 live a (map half hints)) (omega (arith, few, one.counted))) effect one.case d;
            most = λ b m. omega (
              arith,
              most_now a l b m,
              cost_at_least live marks tape t id one.literals marks' t' l.now l.shows (ids_from hints (i + 1)) b effect one.case,
              halvings_below n one.search b one.halvings m,
              one.counted,
              together.at_most,
            );
          };
    }

    -- A hint that forced a literal.
    pub taking_on : effect ≡ Ok Forced → Taking live n hints marks₀ tape₀ t₀ marks' tape' (i + 1) t' sum
    taking_on e =
        let f : ForcedBy live marks t id one.literals marks' t' = subst (EffectCase live marks tape t id one.literals marks' t') e one.case in
        let seen = f.seen.seen in
        record {
          laid = laid_both;
          moved = omega (arith, k.moved, f.made.next);
          left = λ a s.
              let l = k.left a s in
              let look = seen.says l.now l.shows in
              record {
                now = literal_of f.code ∷ l.now;
                shows = f.made.shows l.now l.shows;
                same = same_now a l ∙ take_forces live l.now id (ids_from hints (i + 1)) seen.clause seen.found (literal_of f.code) look;
                least =
                    least_now a l (cost 0 live a (map half hints) - cost 0 live (literal_of f.code ∷ l.now) (ids_from hints (i + 1)))
                    (omega (arith, cost_forces live l.now id (ids_from hints (i + 1)) seen.clause seen.found 0 (literal_of f.code) look, seen.many, one.counted));
                most = λ b h. omega (
                  arith,
                  most_now a l b h,
                  cost_forces live l.now id (ids_from hints (i + 1)) seen.clause seen.found b (literal_of f.code) look,
                  seen.many,
                  one.counted,
                  halvings_below n one.search b one.halvings h,
                  together.at_most,
                );
              };
        }
