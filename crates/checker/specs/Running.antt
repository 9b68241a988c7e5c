-- What the run over a proof's steps comes to, in terms of document 01's `run` (rules' Answers).
use Rattle.std.specs.Prelude.{ℕ, suc, ◌+◌, ◌*◌, ◌≡◌, Result, Ok, Err, List, length}
use Rattle.rules.specs.Text.{Token, tokens}
use Rattle.rules.specs.Judging.{State}
use Rattle.rules.specs.Answers.{Ending, ends_verified, ends_unreadable_step, ends_refused, ends_unfinished, run}
use Rattle.stepping.specs.Stepping.{refusal_of, state_at, rate}
use Rattle.stepping.specs.declared.Between.{Between}
use Rattle.stepping.specs.declared.Failure.{Failure}
use Rattle.stepping.specs.declared.Failure.TheVariants.{Refused, TooShort, Unreadable}
use Rattle.checker.specs.Promises.{ShortAt}
use Rattle.checker.specs.declared.running.Finish.{Finish}
use Rattle.checker.specs.declared.running.Finish.TheVariants.{Verified, Unfinished}
use Rattle.checker.specs.declared.running.Stop.{Stop}

-- How many steps were counted.
abbrev pub steps_of : Result Finish Stop → ℕ
steps_of (Ok (Verified k)) = k
steps_of (Ok (Unfinished k)) = k
steps_of (Err x) = x.step

-- The end of a run by the document, from a state on, with as much fuel as `checked` starts with.
abbrev pub run_from : ℕ → State → List Token → Ending
run_from k s ts = run (suc (length ts)) k s ts

-- Why the run stopped at the k-th step.
abbrev pub StopCase : State → List Token → List ℕ → List ℕ → List ℕ → List ℕ → ℕ → ℕ → ℕ → Failure → Type 0
StopCase s ts heads lits hints tape cells all k (Refused g) = run_from 0 s ts ≡ ends_refused k (refusal_of g)
StopCase s ts heads lits hints tape cells all k TooShort = ShortAt heads lits hints tape cells s ts all
StopCase s ts heads lits hints tape cells all k Unreadable = run_from 0 s ts ≡ ends_unreadable_step k

-- How the run ended.
abbrev pub EndedCase : State → List Token → List ℕ → List ℕ → List ℕ → List ℕ → ℕ → ℕ → Result Finish Stop → Type 0
EndedCase s ts heads lits hints tape cells all (Ok (Verified k)) = run_from 0 s ts ≡ ends_verified k
EndedCase s ts heads lits hints tape cells all (Ok (Unfinished k)) = run_from 0 s ts ≡ ends_unfinished k
EndedCase s ts heads lits hints tape cells all (Err x) = StopCase s ts heads lits hints tape cells all x.step x.why

-- So many clauses, literals and tokens there are in all.
abbrev pub all_of : List ℕ → Between → ℕ
all_of proof b = b.n + b.used + length (tokens proof)

pub record RunsTo (proof : List ℕ) (b : Between) (heads lits hints marks tape : List ℕ) (e : Result Finish Stop) : Type 0 where
  pub case : EndedCase (state_at heads lits b) (tokens proof) heads lits hints tape (length marks) (all_of proof b) e

-- The most turns that a proof takes behind a store of so many clauses and literals.
abbrev pub proof_turns : List ℕ → ℕ → ℕ
proof_turns proof stored = 2 * length proof + length (tokens proof) * rate (stored + length (tokens proof)) + 3

abbrev pub run_turns : List ℕ → Between → ℕ
run_turns proof b = proof_turns proof (b.n + b.used)
