-- From the end of the run to the answer, and from the formula in the store to the formula that the bytes spell. Assumes nothing.
use Rattle.std.specs.Prelude.{Result, Ok, Err}
use Rattle.std.proofs.Common.{ℕ, ◌+◌, ◌*◌, ◌/◌, ◌%◌, ◌≤◌, ◌≡◌, refl, sym, ap, ◌∙◌, inl, inr, ⊎_elim, false, List, arith, mul-le-mul, length, take}
use Rattle.std.proofs.Math.Option.{some}
use Rattle.meaning.specs.Meaning.{Formula}
use Rattle.rules.specs.Text.{tokens}
use Rattle.rules.specs.Formula.{read_formula}
use Rattle.rules.specs.Answers.{answer, start}
use Rattle.rules.proofs.Counting.{tokens_few}
use Rattle.rules.proofs.Running.{checked-run, verdict-read, verdict-unread}
use Rattle.clauses.specs.Counting.{Counts}
use Rattle.formula.specs.Body.{greatest}
use Rattle.formula.specs.Reading.{IsStored, ReadStopped, Reads}
use Rattle.formula.specs.declared.Fault.{Fault}
use Rattle.formula.specs.declared.Fault.TheVariants.{Unreadable as NotReadable, TooShort as NotStored}
use Rattle.formula.specs.declared.Stored.{Stored}
use Rattle.formula.specs.declared.Stopped.{Stopped}
use Rattle.stepping.specs.Stepping.{refusal_of, rate}
use Rattle.stepping.specs.declared.Between.{Between}
use Rattle.checker.specs.Promises.{Exact, Short, time_bound, step_of}
use Rattle.checker.specs.Running.{steps_of, StopCase, EndedCase, all_of, RunsTo, proof_turns, run_turns}
use Rattle.checker.specs.Answering.{stopped_by, answer_by, unread_by, Cleared, Charged, HasMarks, Begun, AnswerCase, Answers, ChecksMarked}
use Rattle.checker.specs.declared.Answer.{Answer}
use Rattle.checker.specs.declared.Answer.TheVariants.{Verified, UnreadableFormula, UnreadableStep, Refused, Unfinished, TooShort}
use Rattle.checker.specs.declared.running.Finish.{Finish}
use Rattle.checker.specs.declared.running.Finish.TheVariants.{Verified as EndsVerified, Unfinished as EndsUnfinished}
use Rattle.checker.specs.declared.running.Stop.{Stop}
use Rattle.stepping.specs.declared.Failure.{Failure}
use Rattle.stepping.specs.declared.Failure.TheVariants.{Refused as IsRefused, TooShort as NoRoom, Unreadable as NotRead}
use Rattle.checker.proofs.Clearing.{cleared_shows, cleared_paired}
use Rattle.checker.proofs.Storing.{no_mark, begun_state}
use Rattle.checker.proofs.Runs.{short_same}

-- By how the run ended.

stopped_least : (k : ℕ) (why : Failure) → step_of (stopped_by k why) ≤ k
stopped_least k (IsRefused g) = omega arith
stopped_least k NoRoom = omega arith
stopped_least k NotRead = omega arith

step_least : (e : Result Finish Stop) → step_of (answer_by e) ≤ steps_of e
step_least (Ok (EndsVerified k)) = omega arith
step_least (Ok (EndsUnfinished k)) = omega arith
step_least (Err x) = stopped_least x.step x.why

-- The formula in the store

module _ (proof heads lits hints marks tape : List ℕ) (n used : ℕ) where
  -- Some variable has no mark.
  pub stored_short : (top : ℕ) → top ≡ greatest (take used lits) / 2 → HasMarks (length marks) used top false → Answers proof heads lits hints marks tape n used TooShort
  stored_short top e h = record { case = λ F held is_n. inl (no_mark heads lits n used top (length marks) e h F held is_n) }

  module _ (b : Between) (q : b ≡ record { n = n; used = used; last = n; dead = 0 }) where
    by_stop : (F : Formula) (k : ℕ) (why : Failure) → StopCase (start F) (tokens proof) heads lits hints tape (length marks) (n + used + length (tokens proof)) k why
        → AnswerCase F proof heads lits hints tape (length marks) (n + used) (stopped_by k why)
    by_stop F k (IsRefused g) y = record { ground = refusal_of g; is = checked-run F (tokens proof) ∙ y }
    by_stop F k NoRoom y = inr y
    by_stop F k NotRead y = checked-run F (tokens proof) ∙ y

    by_end : (F : Formula) (e : Result Finish Stop) → EndedCase (start F) (tokens proof) heads lits hints tape (length marks) (n + used + length (tokens proof)) e
        → AnswerCase F proof heads lits hints tape (length marks) (n + used) (answer_by e)
    by_end F (Ok (EndsVerified k)) y = checked-run F (tokens proof) ∙ y
    by_end F (Ok (EndsUnfinished k)) y = checked-run F (tokens proof) ∙ y
    by_end F (Err x) y = by_stop F x.step x.why y

    same_all : all_of proof b ≡ n + used + length (tokens proof)
    same_all = ap (all_of proof) q

    stored_answers : (e : Result Finish Stop) → RunsTo proof b heads lits hints marks tape e → (a : Answer) → a ≡ answer_by e → Answers proof heads lits hints marks tape n used a
    stored_answers e r a x =
        rw x
        (record {
          case = λ F held is_n.
              by_end F e
              (rw (begun_state heads lits n used F held is_n b q, same_all) at r.case);
        })

    stored_turns : (e : Result Finish Stop) (ran : ℕ) → steps_of e ≤ ran → ran ≤ run_turns proof b → (a : Answer) → a ≡ answer_by e
        → (before noted sum all : ℕ) → noted ≡ n → Counts before noted sum → Counts sum ran all
        → (step_of a ≤ all) × (all ≤ before + n + proof_turns proof (n + used))
    stored_turns e ran l m a x before noted sum all z c d =
        let most : ran ≤ proof_turns proof (n + used) = rw q at m in
        (rw x (omega (arith, step_least e, d.second)), omega (arith, c.at_most, d.at_most))

    pub stored_ran : (e : Result Finish Stop) (ran : ℕ) → RunsTo proof b heads lits hints marks tape e × ((steps_of e ≤ ran) × (ran ≤ run_turns proof b)) → (a : Answer) → a ≡ answer_by e
        → (before noted sum all : ℕ) → noted ≡ n → Counts before noted sum → Counts sum ran all
        → Answers proof heads lits hints marks tape n used a × ((step_of a ≤ all) × (all ≤ before + n + proof_turns proof (n + used)))
    stored_ran e ran r a x before noted sum all z c d =
        (stored_answers e r.0 a x, stored_turns e ran r.1.0 r.1.1 a x before noted sum all z c d)

-- The formula that the bytes spell

-- What is charged before the proof.
before_turns : (bytes used closed cleared read all : ℕ) → cleared ≤ 33_554_432 → Charged bytes used closed read → Counts cleared read all
    → all ≤ 33_554_434 + 4 * bytes + 2 * used + 2 * closed
before_turns bytes used closed cleared read all h c d = omega (arith, c.at_most, d.at_most)

-- The whole stays within the bound.
all_turns_lem : (f p : List ℕ) (n used before all : ℕ) → 2 * (used + n) ≤ length f + 1 → before ≤ 33_554_434 + 4 * length f + 2 * used + 2 * n
    → all ≤ before + n + proof_turns p (n + used) → all ≤ time_bound (length f) (length p)
unfolding rate
all_turns_lem f p n used before all h b t =
    omega (
      arith,
      tokens_few p,
      mul-le-mul {n₁ = length (tokens p)} {m₁ = 2 * (n + used + length (tokens p)) + 73} {n₂ = length p + 1} {m₂ = length f + length p + 75} (omega (arith, tokens_few p)) (omega (arith, tokens_few p)),
    )

module _ (f p heads lits hints marks tape : List ℕ) (r : Result Stored Stopped) (heads' lits' : List ℕ) (rd : Reads f heads lits heads' lits' r)
    (hl : length heads' ≡ length heads) (ll : length lits' ≡ length lits) where
  -- The formula is in the store.
  module _ (x : Stored) (e : r ≡ Ok x) where
    stored : IsStored (read_formula f) f heads' lits' x.vars x.clauses x.used x.top
    stored = rw e at rd.case

    pub marked_begun : (marks' : List ℕ) → Cleared marks' → length marks' % 2 ≡ 0 → length marks' ≤ 33_554_432 → Begun heads' lits' marks' x.clauses x.used x.top
    marked_begun marks' c ev few = record {
      formula = stored.formula;
      holds = stored.holds;
      is_n = stored.is_clauses;
      is_top = stored.is_top;
      paired = cleared_paired marks' ev few;
      clear = cleared_shows marks' c;
    }

    module _ (marks' : List ℕ) (ml : length marks' ≡ length marks) where
      exact_by : (a : Answer) → AnswerCase stored.formula p heads' lits' hints tape (length marks') (x.clauses + x.used) a → Exact f p a
      exact_by (Verified k) y = inr (ap some (sym (verdict-read f p stored.formula stored.is ∙ ap answer y)))
      exact_by UnreadableFormula y = absurd y
      exact_by (UnreadableStep k) y = inr (ap some (sym (verdict-read f p stored.formula stored.is ∙ ap answer y)))
      exact_by (Refused k) y = inr (ap some (sym (verdict-read f p stored.formula stored.is ∙ ap answer y.is)))
      exact_by (Unfinished k) y = inr (ap some (sym (verdict-read f p stored.formula stored.is ∙ ap answer y)))
      exact_by TooShort y = inl refl

      short_by : AnswerCase stored.formula p heads' lits' hints tape (length marks') (x.clauses + x.used) TooShort → Short f p heads lits hints tape (length marks)
      short_by y =
          inr
          (record {
            formula = stored.formula;
            is = stored.is;
            all = x.clauses + x.used + length (tokens p);
            few = omega (arith, stored.few, tokens_few p);
            short =
                ⊎_elim
                (λ z. inl (rw ml at z))
                (λ z. inr (short_same heads' lits' hints tape heads lits hints tape (length marks') (length marks) (start stored.formula) (tokens p) (x.clauses + x.used + length (tokens p)) hl ll refl refl (λ ts g. rw ml at g) z))
                y;
          })

      pub marked_stored : (a : Answer) → Answers p heads' lits' hints marks' tape x.clauses x.used a → (cleared read before turns : ℕ) → cleared ≤ 33_554_432
          → Charged (length f) x.used x.clauses read → Counts cleared read before → step_of a ≤ turns → turns ≤ before + x.clauses + proof_turns p (x.clauses + x.used)
          → ChecksMarked f p heads lits hints marks tape a turns
      marked_stored a y cleared read before turns h c d l m = record {
        exact = exact_by a case;
        short = λ q. short_by (rw q at case);
        least = l;
        most = all_turns_lem f p x.clauses x.used before turns stored.few (before_turns (length f) x.used x.clauses cleared read before h c d) m;
      }
        where
          case : AnswerCase stored.formula p heads' lits' hints tape (length marks') (x.clauses + x.used) a
          case = y.case stored.formula stored.holds stored.is_clauses

  -- It is not.
  module _ (stop : Stopped) (e : r ≡ Err stop) (cleared read turns : ℕ) (h : cleared ≤ 33_554_432) (c : Charged (length f) stop.used stop.closed read) (d : Counts cleared read turns) where
    unread : (fault : Fault) → ReadStopped (read_formula f) f heads lits stop.at stop.used stop.closed fault → ChecksMarked f p heads lits hints marks tape (unread_by fault) turns
    unread NotReadable x = record {
      exact = inr (ap some (sym (verdict-unread f p x.is)));
      short = λ q. absurd (let z : ◌≡◌ {A = ℕ} 0 1 = cc in omega arith);
      least = omega arith;
      most = omega (arith, before_turns (length f) stop.used stop.closed cleared read turns h c d, x.few);
    }
    unread NotStored x = record {
      exact = inl refl;
      short = λ q. inl x.short;
      least = omega arith;
      most = omega (arith, before_turns (length f) stop.used stop.closed cleared read turns h c d, x.few);
    }

    pub marked-unread : (a : Answer) → a ≡ unread_by stop.fault → ChecksMarked f p heads lits hints marks tape a turns
    marked-unread a q = rw q (unread stop.fault (rw e at rd.case))
