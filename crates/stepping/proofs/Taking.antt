-- Taking one step: what was read is judged, and what that comes to for the run. Assumes nothing.
use Rattle.std.specs.Prelude.{Option, Some, Result, Ok, Err}
use Rattle.std.proofs.Common.{ℕ, ◌+◌, ◌-◌, ◌*◌, ◌^◌, ◌<◌, ◌≤◌, ◌≡◌, refl, sym, ap, ◌∙◌, inl, inr, ⊎_elim, List, map}
use Rattle.std.proofs.Common.{arith, add-mul, mul_comm, mul-le-mul, length, get_or, take, drop, length-drop, length-take-le}
use Rattle.std.proofs.Math.Option.{some}
use Rattle.rules.specs.Text.{tokens}
use Rattle.rules.specs.Steps.{Step, add, delete}
use Rattle.rules.specs.Judging.{Live, State, judge}
use Rattle.rules.proofs.Counting.{tokens_few}
use Rattle.clauses.specs.Codes.{literal_of, hint_of, half}
use Rattle.clauses.specs.Store.{live_of, Holds}
use Rattle.clauses.proofs.Holding.{holds_front}
use Rattle.deletion.specs.Deleting.{state_of}
use Rattle.formula.specs.Body.{Placed}
use Rattle.formula.proofs.Fillings.{placed_front, placed_length, placed_slice, placed_below}
use Rattle.steps.specs.Reading.{StepAdded, StepDeleted, StepStopped, StepShort, FaultCase, ReadsStep}
use Rattle.steps.specs.declared.Step.{Step as ReadStep}
use Rattle.steps.specs.declared.Step.TheVariants.{Addition, Deletion}
use Rattle.steps.specs.declared.Read.{Read}
use Rattle.steps.specs.declared.Stopped.{Stopped}
use Rattle.formula.specs.declared.Fault.{Fault}
use Rattle.formula.specs.declared.Fault.TheVariants.{Unreadable as NotReadable, TooShort as NoRoom}
use Rattle.addition.specs.Verdicts.{costs}
use Rattle.addition.specs.Addition.{all_turns}
use Rattle.stepping.specs.Stepping.{not_read, state_at, addition, deletion, Tight, Keeps, Spent, Addable, Adds, AddShort, Deletes, Outcome, StepIs, rate, Lacks, LastTurns, TakeCase, TakesStep}
use Rattle.stepping.specs.declared.Between.{Between}
use Rattle.stepping.specs.declared.Progress.TheVariants.{On, Verified, Nothing}
use Rattle.stepping.specs.declared.Failure.{Failure}
use Rattle.stepping.specs.declared.Failure.TheVariants.{Refused, TooShort, Unreadable}

-- Turns

-- At least one turn was counted.
pub spent_one : (bytes codes more turns : ℕ) → Spent bytes codes more turns → 1 ≤ turns
spent_one bytes codes more turns s = ⊎_elim (λ l. omega arith) (λ f. omega arith) s.at_least.case

-- One for each token, where the text is no longer than a slice can be.
spent_tokens : (bytes codes more turns : ℕ) → Spent bytes codes more turns → codes + 3 < 2 ^ 63 → codes + 3 ≤ turns
spent_tokens bytes codes more turns s h = ⊎_elim (λ l. omega arith) (λ f. omega arith) s.at_least.case

-- What an addition with so many codes can take, at the rate of so many tokens in all.
adding_turns : (n used new many all turns bytes : ℕ) → n + used + (new + many + 3) ≤ all → turns ≤ new + many + 3 + bytes + all_turns n (used + new) many
    → turns ≤ bytes + (new + many + 3) * rate all
unfolding costs rate
adding_turns n used new many all turns bytes h t =
    omega (
      arith,
      add-mul (new + many) 3 (2 * all + 73),
      mul-le-mul {n₁ = many} {m₁ = 2 * (used + new) + 70} {n₂ = new + many} {m₂ = 2 * all + 70} (omega arith) (omega arith),
      mul_more (new + many) (2 * all + 70),
    )
  where
    mul_more : (a x : ℕ) → a * (x + 3) ≡ a * x + 3 * a
    mul_more a x = mul_comm a (x + 3) ∙ (add-mul x 3 a ∙ ap (λ (y : ℕ). y + 3 * a) (mul_comm x a))

-- What a deletion with so many ids can take.
deleting_turns : (n used many all turns bytes : ℕ) → n + used + (many + 3) ≤ all → turns ≤ many + 3 + bytes + (64 * many + 2 * (n + used))
    → turns ≤ bytes + (many + 3) * rate all
unfolding rate
deleting_turns n used many all turns bytes h t =
    omega (arith, add-mul many 3 (2 * all + 73), mul-le-mul {n₁ = many} {m₁ = 65} {n₂ = many} {m₂ = 2 * all + 73} (omega arith) (omega arith))

module _ (proof : List ℕ) (at next : ℕ) (b : Between) (codes turns : ℕ) (later : at < next) (within : next ≤ length proof)
    (split : length (tokens (drop next proof)) + (codes + 3) ≡ length (tokens (drop at proof)))
    (cost : (all : ℕ) → b.n + b.used + (codes + 3) ≤ all → turns ≤ (next - at) + (codes + 3) * rate all) where
  step_most : (all : ℕ) → b.n + b.used + length (tokens (drop at proof)) ≤ all
      → turns + 2 * (length proof - next) + length (tokens (drop next proof)) * rate all ≤ 2 * (length proof - at) + length (tokens (drop at proof)) * rate all
  step_most all h =
      let product : length (tokens (drop at proof)) * rate all ≡ length (tokens (drop next proof)) * rate all + (codes + 3) * rate all =
      ap (λ (x : ℕ). x * rate all) (sym split) ∙ add-mul (length (tokens (drop next proof))) (codes + 3) (rate all) in
      omega (arith, product, cost all (omega (arith, split)))

  step_last : LastTurns proof at b turns
  step_last all h = omega (arith, step_most all h)

-- A step that was not read to its end.
stopped_last : (proof : List ℕ) (at : ℕ) (b : Between) (codes turns : ℕ) → codes ≤ length (tokens (drop at proof))
    → Spent (length proof - at) codes (length proof - at) turns → LastTurns proof at b turns
unfolding rate
stopped_last proof at b codes turns h s all m =
    omega (arith, s.at_most, mul-le-mul {n₁ = length (tokens (drop at proof))} {m₁ = 1} {n₂ = length (tokens (drop at proof))} {m₂ = 2 * all + 73} (omega arith) (omega arith))

-- Reading a step leaves what is known between two steps.

module _ (proof : List ℕ) (at : ℕ) (b : Between) (heads lits hints marks tape : List ℕ) (k : Keeps heads lits marks b) where
  module _ (lits' new : List ℕ) (end : ℕ) (p : Placed lits b.used new lits' end) where
    fit : b.used ≤ length lits
    fit = k.tight.held.store.fits

    read-holds : Holds heads lits' b.n b.used b.last (live_of heads lits b.n)
    read-holds =
        holds_front heads lits b.n b.used b.last (live_of heads lits b.n) (record { store = k.tight.held.store; same = refl })
        lits'
        (placed_front lits b.used new lits' end fit p)
        (rw (placed_length lits b.used new lits' end fit p) fit)

    read_state : state_at heads lits' b ≡ state_at heads lits b
    read_state = ap (λ (l : Live). state_of l b.last) read-holds.same

    read_tight : Tight heads lits' b
    read_tight = record { held = record { store = read-holds.store; counted = k.tight.held.counted }; half = k.tight.half }

  -- An addition

  module _ (lits' hints' : List ℕ) (r : Result Read Stopped) (rd : ReadsStep (length marks) proof at b.used lits hints lits' hints' r)
      (step : Option ReadStep) (next : ℕ) (f : r ≡ Ok (record { step = step; next = next })) (id end many : ℕ) (g : step ≡ Some (Addition id end many)) where
    a : StepAdded (length marks) proof at b.used lits hints lits' hints' id end many next
    a = rw (f, g) at rd.case

    known_all : (i : ℕ) → i < end → get_or lits' i 0 < length marks
    known_all =
        placed_below lits b.used a.new lits' end k.tight.held.store.fits a.placed (length marks) a.below k.known

    pub addition_addable : Addable heads lits' hints' marks b id end many
    addition_addable = record {
      keeps = record {
        tight = read_tight lits' a.new end a.placed;
        known = λ i h. known_all i (omega (arith, a.placed.count));
        paired = k.paired;
        clear = k.clear;
      };
      forward = omega (arith, a.placed.count);
      inside = rw (placed_length lits b.used a.new lits' end k.tight.held.store.fits a.placed) a.placed.room;
      known = λ i g h. known_all i h;
      few = rw (placed_length hints 0 a.told hints' many (omega arith) a.noted) a.noted.room;
      small = omega (arith, a.is_id.within);
    }

    same_step : addition lits' hints' b id end many ≡ add id (map literal_of a.new) (map hint_of a.told)
    same_step =
        ap (λ (xs : List ℕ). add id (map literal_of xs) (map hint_of (take many hints'))) (placed_slice lits b.used a.new lits' end k.tight.held.store.fits a.placed)
        ∙ ap (λ (xs : List ℕ). add id (map literal_of a.new) (map hint_of xs)) (placed_slice hints 0 a.told hints' many (omega arith) a.noted)

    has : StepIs (tokens (drop at proof)) (tokens (drop next proof))
    has = record {
      step = addition lits' hints' b id end many;
      is = a.is ∙ ap (λ (s : Step). some (s, tokens (drop next proof))) (sym same_step);
    }

    codes_are : (end - b.used) + many ≡ length a.new + length a.told
    codes_are = omega (arith, a.placed.count, a.noted.count)

    module _ (heads' marks' : List ℕ) (next' turns : ℕ) (en : next' ≡ next) (s : Spent (next - at) ((end - b.used) + many) (all_turns b.n end many) turns)
        (short : length proof < 2 ^ 63) where
      split : length (tokens (drop next proof)) + ((end - b.used) + many + 3) ≡ length (tokens (drop at proof))
      split = rw codes_are a.turns

      few_tokens : (end - b.used) + many + 3 < 2 ^ 63
      few_tokens = omega (arith, split, tokens_few (drop at proof), length-drop at proof)

      cost : (all : ℕ) → b.n + b.used + ((end - b.used) + many + 3) ≤ all → turns ≤ (next - at) + ((end - b.used) + many + 3) * rate all
      cost all h =
          let z : b.used + (end - b.used) ≡ end = omega (arith, a.placed.count) in
          adding_turns b.n b.used (end - b.used) many all turns (next - at) h (rw z s.at_most)

      last : LastTurns proof at b turns
      last = step_last proof at next b ((end - b.used) + many) turns a.later a.within split cost

      lacks : AddShort heads tape b end many → Lacks heads lits hints tape (length marks) b.n b.used (tokens (drop at proof))
      lacks x = record {
        codes = length a.new + length a.told;
        step = a.begun;
        short = ⊎_elim (λ h. inl h.short) (λ t. inr (inr (inr (inl (omega (arith, a.placed.count, a.noted.count)))))) x;
      }

      went : (o : Outcome) → Adds heads lits' hints' marks tape b id end many heads' marks' o
          → TakeCase proof at b (state_at heads lits b) heads lits hints tape (length marks) heads' lits' marks' next turns o
      unfolding has
      went (Ok (On b')) x = record {
        has = has;
        is = ap (λ (q : State). judge q (addition lits' hints' b id end many)) (sym (read_state lits' a.new end a.placed)) ∙ x.case.is;
        keeps = x.case.keeps;
        later = a.later;
        within = a.within;
        few = omega (arith, x.case.few, split, a.placed.count);
        at_least = omega (arith, split, spent_tokens (next - at) ((end - b.used) + many) (all_turns b.n end many) turns s few_tokens);
        at_most = step_most proof at next b ((end - b.used) + many) turns a.later a.within split cost;
      }
      went (Ok Verified) x = (
        record {
          last = record { rest = tokens (drop next proof); has = has };
          is = ap (λ (q : State). judge q (addition lits' hints' b id end many)) (sym (read_state lits' a.new end a.placed)) ∙ x.case;
        },
        last,
      )
      went (Err (Refused g)) x = (
        record {
          last = record { rest = tokens (drop next proof); has = has };
          is = ap (λ (q : State). judge q (addition lits' hints' b id end many)) (sym (read_state lits' a.new end a.placed)) ∙ x.case;
        },
        last,
      )
      went (Err TooShort) x = (lacks x.case, last)
      went (Err Unreadable) x = absurd x.case
      went (Ok Nothing) x = absurd x.case

      pub addition-taken : (o : Outcome) → Adds heads lits' hints' marks tape b id end many heads' marks' o
          → TakesStep proof at b heads lits hints marks tape heads' lits' marks' o next' turns
      addition-taken o x =
          rw en (record { case = went o x; counted = spent_one (next - at) ((end - b.used) + many) (all_turns b.n end many) turns s })

  -- A deletion

  module _ (lits' hints' : List ℕ) (r : Result Read Stopped) (rd : ReadsStep (length marks) proof at b.used lits hints lits' hints' r)
      (step : Option ReadStep) (next : ℕ) (f : r ≡ Ok (record { step = step; next = next })) (many : ℕ) (g : step ≡ Some (Deletion many)) where
    d : StepDeleted proof at lits hints lits' hints' many next
    d = rw (f, g) at rd.case

    pub deletion_few : many ≤ length hints'
    deletion_few = rw (placed_length hints 0 d.told hints' many (omega arith) d.noted) d.noted.room

    gone_step : deletion (take many hints') ≡ delete (map half d.told)
    gone_step = ap deletion (placed_slice hints 0 d.told hints' many (omega arith) d.noted)

    had : StepIs (tokens (drop at proof)) (tokens (drop next proof))
    had = record { step = deletion (take many hints'); is = d.is ∙ ap (λ (s : Step). some (s, tokens (drop next proof))) (sym gone_step) }

    module _ (heads' lits'' : List ℕ) (next' turns : ℕ) (en : next' ≡ next) (s₀ : Spent (next - at) many (64 * length (take many hints') + 2 * (b.n + b.used)) turns)
        (short : length proof < 2 ^ 63) where
      s : Spent (next - at) many (64 * many + 2 * (b.n + b.used)) turns
      s = rw (length-take-le many hints' deletion_few) at s₀

      split_ids : length (tokens (drop next proof)) + (many + 3) ≡ length (tokens (drop at proof))
      split_ids = omega (arith, d.turns, d.noted.count)

      few_ids : many + 3 < 2 ^ 63
      few_ids = omega (arith, split_ids, tokens_few (drop at proof), length-drop at proof)

      cost-ids : (all : ℕ) → b.n + b.used + (many + 3) ≤ all → turns ≤ (next - at) + (many + 3) * rate all
      cost-ids all h = deleting_turns b.n b.used many all turns (next - at) h s.at_most

      same_state : state_at heads lits' b ≡ state_at heads lits b
      same_state = ap (λ (xs : List ℕ). state_at heads xs b) d.same

      left : (o : Outcome) → Deletes heads lits' (take many hints') b heads' lits'' o
          → TakeCase proof at b (state_at heads lits b) heads lits hints tape (length marks) heads' lits'' marks next turns o
      unfolding had
      left (Ok (On b')) x = record {
        has = had;
        is = ap (λ (q : State). judge q (deletion (take many hints'))) (sym same_state) ∙ x.case.is;
        keeps = record {
          tight = x.case.tight;
          known = x.case.below (length marks) (λ i h. rw d.same (k.known i h));
          paired = k.paired;
          clear = k.clear;
        };
        later = d.later;
        within = d.within;
        few = omega (arith, x.case.few, split_ids);
        at_least = omega (arith, split_ids, spent_tokens (next - at) many (64 * many + 2 * (b.n + b.used)) turns s few_ids);
        at_most = step_most proof at next b many turns d.later d.within split_ids cost-ids;
      }
      left (Ok Verified) x = absurd x.case
      left (Err (Refused g)) x = (
        record {
          last = record { rest = tokens (drop next proof); has = had };
          is = ap (λ (q : State). judge q (deletion (take many hints'))) (sym same_state) ∙ x.case;
        },
        step_last proof at next b many turns d.later d.within split_ids cost-ids,
      )
      left (Err TooShort) x = absurd x.case
      left (Err Unreadable) x = absurd x.case
      left (Ok Nothing) x = absurd x.case

      pub deletion-taken : (o : Outcome) → Deletes heads lits' (take many hints') b heads' lits'' o
          → TakesStep proof at b heads lits hints marks tape heads' lits'' marks o next' turns
      deletion-taken o x =
          rw en (record { case = left o x; counted = spent_one (next - at) many (64 * many + 2 * (b.n + b.used)) turns s })

  -- No step

  module _ (lits' hints' : List ℕ) (r : Result Read Stopped) (rd : ReadsStep (length marks) proof at b.used lits hints lits' hints' r) where
    module _ (stop : Stopped) (e : r ≡ Err stop) where
      abbrev Stops : Type 0
      Stops = StepStopped proof at b.used lits hints lits' hints' stop.at stop.end stop.many

      case-at : FaultCase (length marks) proof at b.used lits hints lits' hints' stop.fault stop.at stop.end stop.many
      case-at = rw e at rd.case

      stopped-by : (fault : Fault) → FaultCase (length marks) proof at b.used lits hints lits' hints' fault stop.at stop.end stop.many → Stops
      stopped-by NotReadable x = x.stopped
      stopped-by NoRoom x = x.stopped

      stopped : Stops
      stopped = stopped-by stop.fault case-at

      stopped_codes : (stop.end - b.used) + stop.many ≤ length (tokens (drop at proof))
      stopped_codes = omega (arith, stopped.placed.count, stopped.noted.count, stopped.at_least)

      short_lacks : StepShort (length marks) proof at b.used lits hints lits' hints' stop.at stop.end stop.many
          → Lacks heads lits hints tape (length marks) b.n b.used (tokens (drop at proof))
      short_lacks x = record {
        codes = length x.stopped.new + length x.stopped.told;
        step = x.begun;
        short =
            ⊎_elim
            (λ l. inr (inl (omega (arith, x.stopped.placed.count))))
            (λ y. ⊎_elim (λ h. inr (inr (inl (omega (arith, x.stopped.noted.count))))) (λ g. inr (inr (inr (inr g)))) y)
            x.short;
      }

      taken-by : (heads' lits'' marks' : List ℕ) (place turns : ℕ) → LastTurns proof at b turns → (fault : Fault)
          → FaultCase (length marks) proof at b.used lits hints lits' hints' fault stop.at stop.end stop.many
          → TakeCase proof at b (state_at heads lits b) heads lits hints tape (length marks) heads' lits'' marks' place turns (Err (not_read fault))
      taken-by heads' lits'' marks' place turns last NotReadable x = (record { is = x.is; left = x.left }, last)
      taken-by heads' lits'' marks' place turns last NoRoom x = (short_lacks x, last)

      pub stopped_taken : (heads' lits'' marks' : List ℕ) (o : Outcome) (why : Failure) (place turns : ℕ) → o ≡ Err why → why ≡ not_read stop.fault
          → Spent (length proof - at) ((stop.end - b.used) + stop.many) (length proof - at) turns → TakesStep proof at b heads lits hints marks tape heads' lits'' marks' o place turns
      stopped_taken heads' lits'' marks' o why place turns eo ew s =
          rw (eo, ew)
          (record {
            case = taken-by heads' lits'' marks' place turns (stopped_last proof at b ((stop.end - b.used) + stop.many) turns stopped_codes s) stop.fault case-at;
            counted = spent_one (length proof - at) ((stop.end - b.used) + stop.many) (length proof - at) turns s;
          })
