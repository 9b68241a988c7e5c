-- The run over the steps of a proof: what is known between two of them, and what it is known to come to. Assumes nothing.
use Rattle.std.specs.Prelude.{Result, Ok, Err}
use Rattle.std.proofs.Common.{ℕ, ◌+◌, ◌-◌, ◌*◌, ◌^◌, ◌<◌, ◌≤◌, ◌≡◌, refl, ◌∙◌, inl, inr, ⊎_elim, List, arith, add-one, length, drop}
use Rattle.rules.specs.Text.{Token, tokens}
use Rattle.rules.specs.Judging.{State}
use Rattle.rules.proofs.Counting.{tokens_few}
use Rattle.rules.proofs.Running.{step_shorter, run_end, run_unreadable, run_refused, run_verified, run_on}
use Rattle.clauses.specs.Counting.{Counts}
use Rattle.clauses.specs.Store.{live_of}
use Rattle.deletion.specs.Deleting.{weight}
use Rattle.deletion.proofs.Waste.{weight_dead}
use Rattle.steps.specs.Reading.{LargeIn}
use Rattle.stepping.specs.Stepping.{Outcome, Lent, refusal_of, state_at, Keeps, rate, Lacks, LastTurns, TakesStep}
use Rattle.stepping.specs.declared.Work.{Work}
use Rattle.stepping.specs.declared.Between.{Between}
use Rattle.stepping.specs.declared.Progress.{Progress}
use Rattle.stepping.specs.declared.Progress.TheVariants.{On, Verified, Nothing}
use Rattle.stepping.specs.declared.Failure.{Failure}
use Rattle.stepping.specs.declared.Failure.TheVariants.{Refused, TooShort, Unreadable}
use Rattle.checker.specs.Promises.{Leads, here, then, ShortAt}
use Rattle.checker.specs.Running.{steps_of, run_from, StopCase, all_of, RunsTo, run_turns}
use Rattle.checker.specs.declared.running.Finish.{Finish}
use Rattle.checker.specs.declared.running.Finish.TheVariants.{Verified as EndsVerified, Unfinished as EndsUnfinished}
use Rattle.checker.specs.declared.running.Stop.{Stop}

-- What is known where so many steps are done: what is left comes to what the whole comes to; the store has no more than the
-- tokens up to there; and the turns so far leave enough for the tokens that are left.
pub record Running (proof : List ℕ) (b₀ : Between) (w₀ w : Work) (at done turns : ℕ) (b : Between) : Type 0 where
  pub keeps : Keeps w.heads.now w.lits.now w.marks.now b
  pub within : at ≤ length proof
  pub leads : Leads (state_at w₀.heads.now w₀.lits.now b₀) (tokens proof) (state_at w.heads.now w.lits.now b) (tokens (drop at proof))
  pub same : run_from 0 (state_at w₀.heads.now w₀.lits.now b₀) (tokens proof) ≡ run_from done (state_at w.heads.now w.lits.now b) (tokens (drop at proof))
  pub few : b.n + b.used + length (tokens (drop at proof)) ≤ all_of proof b₀
  pub steps : done + length (tokens (drop at proof)) ≤ length (tokens proof)
  pub counted : done ≤ turns
  pub bounded : turns + 2 * (length proof - at) + length (tokens (drop at proof)) * rate (all_of proof b₀) ≤ 2 * length proof + length (tokens proof) * rate (all_of proof b₀)
  pub lent : Lent w₀ w

pub running_start : (proof : List ℕ) (b : Between) (w : Work) → Keeps w.heads.now w.lits.now w.marks.now b → Running proof b w w 0 0 0 b
running_start proof b w k = record {
  keeps = k;
  within = omega arith;
  leads = here;
  same = refl;
  few = omega arith;
  steps = omega arith;
  counted = omega arith;
  bounded = omega arith;
  lent = record {
    heads = refl;
    lits = refl;
    hints = refl;
    guess = refl;
    marks = refl;
    tape = refl;
    same_heads = refl;
    same_lits = refl;
    same_hints = refl;
    same_guess = refl;
    same_marks = refl;
    same_tape = refl;
  };
}

-- What was lent twice is what it was at first.
pub lent_on : (w₀ w w' : Work) → Lent w₀ w → Lent w w' → Lent w₀ w'
lent_on w₀ w w' a b = record {
  heads = b.heads ∙ a.heads;
  lits = b.lits ∙ a.lits;
  hints = b.hints ∙ a.hints;
  guess = b.guess ∙ a.guess;
  marks = b.marks ∙ a.marks;
  tape = b.tape ∙ a.tape;
  same_heads = b.same_heads ∙ a.same_heads;
  same_lits = b.same_lits ∙ a.same_lits;
  same_hints = b.same_hints ∙ a.same_hints;
  same_guess = b.same_guess ∙ a.same_guess;
  same_marks = b.same_marks ∙ a.same_marks;
  same_tape = b.same_tape ∙ a.same_tape;
}

-- Only the lengths of the parts matter, and whether a literal has a mark.
lacks_same : (heads lits hints tape heads₀ lits₀ hints₀ tape₀ : List ℕ) (cells cells₀ n used : ℕ) (ts : List Token)
    → length heads ≡ length heads₀ → length lits ≡ length lits₀ → length hints ≡ length hints₀ → length tape ≡ length tape₀ → (LargeIn cells ts → LargeIn cells₀ ts)
    → Lacks heads lits hints tape cells n used ts → Lacks heads₀ lits₀ hints₀ tape₀ cells₀ n used ts
lacks_same heads lits hints tape heads₀ lits₀ hints₀ tape₀ cells cells₀ n used ts a b c d large x = record {
  codes = x.codes;
  step = x.step;
  short =
      ⊎_elim
      (λ h. inl (omega (arith, a)))
      (λ y.
      ⊎_elim
      (λ h. inr (inl (omega (arith, b))))
      (λ z. ⊎_elim (λ h. inr (inr (inl (omega (arith, c))))) (λ w. ⊎_elim (λ h. inr (inr (inr (inl (omega (arith, d)))))) (λ g. inr (inr (inr (inr (large g))))) w) z)
      y)
      x.short;
}

-- No more than half of the store belongs to deleted clauses.
live-half : (heads lits marks : List ℕ) (b : Between) → Keeps heads lits marks b → b.n + b.used ≤ 2 * weight (live_of heads lits b.n)
live-half heads lits marks b k =
    omega (arith, weight_dead heads lits b.n b.used b.last k.tight.held.store, k.tight.held.counted, k.tight.half)

module _ (proof : List ℕ) (b₀ : Between) (w₀ w : Work) (at done turns : ℕ) (b : Between) (r : Running proof b₀ w₀ w at done turns b) where
  abbrev before : State
  before = state_at w.heads.now w.lits.now b

  abbrev left : List Token
  left = tokens (drop at proof)

  pub running_small : length proof < 2 ^ 63 → done < 2 ^ 63
  running_small h = omega (arith, r.steps, tokens_few proof)

  module _ (w' : Work) (next more turns' : ℕ) (c : Counts turns more turns') where
    abbrev pub Takes : Outcome → Type 0
    Takes o =
        TakesStep proof at b w.heads.now w.lits.now w.hints.now w.marks.now w.tape.now w'.heads.now w'.lits.now w'.marks.now o next more

    abbrev pub Ends : Result Finish Stop → Type 0
    Ends e =
        RunsTo proof b₀ w₀.heads.now w₀.lits.now w₀.hints.now w₀.marks.now w₀.tape.now e × ((steps_of e ≤ turns') × (turns' ≤ run_turns proof b₀))

    -- The count goes up with each step, unless it is full.
    done_more : (o : Outcome) → Takes o → length proof < 2 ^ 63 → done + 1 ≤ turns'
    done_more o t h = ⊎_elim (λ l. omega (arith, r.counted, t.counted)) (λ f. omega (arith, running_small h)) c.at_least.case

    last_turns : LastTurns proof at b more → turns' ≤ run_turns proof b₀
    last_turns m = omega (arith, c.at_most, r.bounded, m (all_of proof b₀) r.few)

    -- The run is over.
    pub running_verified : (o : Outcome) (p : Progress) → o ≡ Ok p → p ≡ Verified → Takes o → length proof < 2 ^ 63 → Ends (Ok (EndsVerified (done + 1)))
    running_verified o p e f s h =
        let t : Takes (Ok Verified) = rw f at (rw e at s) in
        let y = t.case in
        (record { case = rw (add-one done) (r.same ∙ run_verified done before left (y.0.last.has.step, y.0.last.rest) y.0.last.has.is y.0.is) }, (done_more (Ok Verified) t h, last_turns y.1))

    pub running_unfinished : (o : Outcome) (p : Progress) → o ≡ Ok p → p ≡ Nothing → Takes o → length proof < 2 ^ 63 → Ends (Ok (EndsUnfinished done))
    running_unfinished o p e f s h =
        let t : Takes (Ok Nothing) = rw f at (rw e at s) in
        let y = t.case in
        (record { case = r.same ∙ run_end done before left y.0 }, (omega (arith, done_more (Ok Nothing) t h), last_turns y.1))

    stopped : (why : Failure) → Takes (Err why)
        → StopCase (state_at w₀.heads.now w₀.lits.now b₀) (tokens proof) w₀.heads.now w₀.lits.now w₀.hints.now w₀.tape.now (length w₀.marks.now) (all_of proof b₀) (done + 1) why
    stopped (Refused g) t =
        let y = t.case in
        rw (add-one done) (r.same ∙ run_refused done before left (y.0.last.has.step, y.0.last.rest) (refusal_of g) y.0.last.has.is y.0.is)
    stopped TooShort t = record {
      state = before;
      rest = left;
      leads = r.leads;
      n = b.n;
      used = b.used;
      twice = live-half w.heads.now w.lits.now w.marks.now b r.keeps;
      few = r.few;
      lacks =
          lacks_same w.heads.now w.lits.now w.hints.now w.tape.now w₀.heads.now w₀.lits.now w₀.hints.now w₀.tape.now
          (length w.marks.now) (length w₀.marks.now) b.n b.used left r.lent.heads r.lent.lits r.lent.hints r.lent.tape
          (λ g. rw r.lent.marks at g)
          t.case.0;
    }
    stopped Unreadable t = let y = t.case in rw (add-one done) (r.same ∙ run_unreadable done before left y.0.is y.0.left)

    stopped_turns : (why : Failure) → Takes (Err why) → turns' ≤ run_turns proof b₀
    stopped_turns (Refused g) t = last_turns t.case.1
    stopped_turns TooShort t = last_turns t.case.1
    stopped_turns Unreadable t = last_turns t.case.1

    pub running_stopped : (o : Outcome) (why : Failure) → o ≡ Err why → Takes o → length proof < 2 ^ 63 → Ends (Err (record { step = done + 1; why = why }))
    running_stopped o why e s h =
        let t : Takes (Err why) = rw e at s in
        (record { case = stopped why t }, (done_more (Err why) t h, stopped_turns why t))

    -- The next step.
    pub running_on : (o : Outcome) (p : Progress) (b' : Between) → o ≡ Ok p → p ≡ On b' → Takes o → length proof < 2 ^ 63 → Lent w w' → Running proof b₀ w₀ w' next (done + 1) turns' b'
    running_on o p b' e f s h l =
        let t : Takes (Ok (On b')) = rw f at (rw e at s) in
        let y = t.case in
        record {
          keeps = y.keeps;
          within = y.within;
          leads = then (y.has.step, tokens (drop next proof)) r.leads y.has.is y.is;
          same =
              rw (add-one done)
              (r.same ∙ run_on done before (state_at w'.heads.now w'.lits.now b') left (y.has.step, tokens (drop next proof)) y.has.is y.is);
          few = omega (arith, y.few, r.few);
          steps = omega (arith, r.steps, step_shorter left (y.has.step, tokens (drop next proof)) y.has.is);
          counted = done_more (Ok (On b')) t h;
          bounded = omega (arith, c.at_most, r.bounded, y.at_most (all_of proof b₀) r.few);
          lent = lent_on w₀ w w' r.lent l;
        }

    -- There are fewer tokens then.
    pub running_less : (o : Outcome) (p : Progress) (b' : Between) → o ≡ Ok p → p ≡ On b' → Takes o → length (tokens (drop next proof)) < length (tokens (drop at proof))
    running_less o p b' e f s =
        let t : Takes (Ok (On b')) = rw f at (rw e at s) in
        step_shorter left (t.case.has.step, tokens (drop next proof)) t.case.has.is

pub short_same : (heads lits hints tape heads₀ lits₀ hints₀ tape₀ : List ℕ) (cells cells₀ : ℕ) (s : State) (ts : List Token) (all : ℕ)
    → length heads ≡ length heads₀ → length lits ≡ length lits₀ → length hints ≡ length hints₀ → length tape ≡ length tape₀ → ((rest : List Token) → LargeIn cells rest → LargeIn cells₀ rest)
    → ShortAt heads lits hints tape cells s ts all → ShortAt heads₀ lits₀ hints₀ tape₀ cells₀ s ts all
short_same heads lits hints tape heads₀ lits₀ hints₀ tape₀ cells cells₀ s ts all a b c d large x = record {
  state = x.state;
  rest = x.rest;
  leads = x.leads;
  n = x.n;
  used = x.used;
  twice = x.twice;
  few = x.few;
  lacks = lacks_same heads lits hints tape heads₀ lits₀ hints₀ tape₀ cells cells₀ x.n x.used x.rest a b c d (large x.rest) x.lacks;
}
