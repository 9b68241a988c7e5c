-- What reading a step from a text comes to, in terms of document 01's `read_step`.
use Rattle.std.specs.Prelude.{ℕ, ◌+◌, ◌*◌, ◌<◌, ◌≤◌, ◌≡◌, ◌⊎◌, List, [], ◌∷◌, ◌++◌, map, length, drop, Option, Some, None, Result, Ok, Err}
use Rattle.std.proofs.Math.Option.{none, some}
use Rattle.rules.specs.Limits.{max_variable, max_id}
use Rattle.rules.specs.Text.{Token, tokens}
use Rattle.rules.specs.Steps.{add, delete, read_step}
use Rattle.clauses.specs.Codes.{literal_of, hint_of, half}
use Rattle.formula.specs.Body.{Placed, AllBelow}
use Rattle.formula.specs.declared.Fault.{Fault}
use Rattle.formula.specs.declared.Fault.TheVariants.{Unreadable, TooShort}
use Rattle.steps.specs.Partials.{Partial, at_start, reach}
use Rattle.steps.specs.Feeding.{phase_of, IsId, Stands, NextLiteral}
use Rattle.steps.specs.declared.feeding.Kind.TheVariants.{Literals, Hints}
use Rattle.steps.specs.declared.feeding.Phase.{Phase}
use Rattle.steps.specs.declared.Step.{Step}
use Rattle.steps.specs.declared.Step.TheVariants.{Addition, Deletion}
use Rattle.steps.specs.declared.Read.{Read}
use Rattle.steps.specs.declared.Stopped.{Stopped}

-- Where the reader stands between two tokens: those of `front` are read, and make the part of a step that the phase and the
-- slices say.
pub record Reading (cells : ℕ) (s : List ℕ) (at used : ℕ) (lits₀ hints₀ lits hints : List ℕ) (i : ℕ) (phase : Phase) : Type 0 where
  pub sofar : Partial
  pub front : List Token
  pub split : tokens (drop at s) ≡ front ++ tokens (drop i s)
  pub reached : reach at_start front ≡ some sofar
  pub stands : Stands cells sofar phase lits₀ used lits hints₀ hints
  pub moved : at < i → 1 ≤ length front
  pub later : at ≤ i
  pub within : i ≤ length s

-- Short numbers below `limit` were taken one after the other from `from` up to `next`, and their codes stand in the slice from
-- `first` up to `end`: a reader of literals, or of hints, that stood at `from` stands at `next`.
pub record Along (s : List ℕ) (from first limit : ℕ) (slots slots' : List ℕ) (next end : ℕ) : Type 0 where
  pub literals : (cells start used : ℕ) (lits₀ hints₀ hints : List ℕ) (n many : ℕ) → limit ≤ cells → limit ≤ 2 * max_variable + 2
      → Reading cells s start used lits₀ hints₀ slots hints from (phase_of Literals n first many)
      → Reading cells s start used lits₀ hints₀ slots' hints next (phase_of Literals n end many)
  pub hints : (cells start used : ℕ) (lits₀ hints₀ lits : List ℕ) (n place : ℕ) → limit ≤ 2 * max_id + 2
      → Reading cells s start used lits₀ hints₀ lits slots from (phase_of Hints n place first)
      → Reading cells s start used lits₀ hints₀ lits slots' next (phase_of Hints n place end)
  pub later : from ≤ next
  pub within : next ≤ length s
  pub long : length slots' ≡ length slots

-- A reader that stood at `from` with this phase stands at `next` with that one.
pub record GoesOnward (cells : ℕ) (s : List ℕ) (from : ℕ) (phase : Phase) (lits hints lits' hints' : List ℕ) (next : ℕ) (phase' : Phase) : Type 0 where
  pub on : (start used : ℕ) (lits₀ hints₀ : List ℕ) → Reading cells s start used lits₀ hints₀ lits hints from phase → Reading cells s start used lits₀ hints₀ lits' hints' next phase'
  pub later : from ≤ next
  pub within : next ≤ length s

-- The tokens begin with the beginning of a step that has at least so many tokens, and more are left.
pub record BeginsStep (ts : List Token) (codes : ℕ) : Type 0 where
  pub front : List Token
  pub rest : List Token
  pub split : ts ≡ front ++ rest
  pub sofar : Partial
  pub reached : reach at_start front ≡ some sofar
  pub few : codes ≤ length front
  pub left : 1 ≤ length rest

-- An addition was read from `at` on, and its literals and hints were stored. A token was taken for the id, for each literal and
-- each hint, and for the two 0.
pub record StepAdded (cells : ℕ) (s : List ℕ) (at used : ℕ) (lits hints lits' hints' : List ℕ) (n end many next : ℕ) : Type 0 where
  pub new : List ℕ
  pub told : List ℕ
  pub is : read_step (tokens (drop at s)) ≡ some (add n (map literal_of new) (map hint_of told), tokens (drop next s))
  pub is_id : IsId n
  pub placed : Placed lits used new lits' end
  pub noted : Placed hints 0 told hints' many
  pub below : AllBelow cells new
  pub turns : length (tokens (drop next s)) + (length new + length told + 3) ≡ length (tokens (drop at s))
  pub begun : BeginsStep (tokens (drop at s)) (length new + length told)
  pub later : at < next
  pub within : next ≤ length s

-- A deletion was read from `at` on, and its ids were stored. A token was taken for the id before the letter d, for the letter,
-- for each id, and for the 0.
pub record StepDeleted (s : List ℕ) (at : ℕ) (lits hints lits' hints' : List ℕ) (many next : ℕ) : Type 0 where
  pub told : List ℕ
  pub is : read_step (tokens (drop at s)) ≡ some (delete (map half told), tokens (drop next s))
  pub noted : Placed hints 0 told hints' many
  pub same : lits' ≡ lits
  pub turns : length (tokens (drop next s)) + (length told + 3) ≡ length (tokens (drop at s))
  pub later : at < next
  pub within : next ≤ length s

-- No step is left.
pub record StepNone (s : List ℕ) (at : ℕ) (lits hints lits' hints' : List ℕ) (next : ℕ) : Type 0 where
  pub is : tokens (drop at s) ≡ []
  pub same_lits : lits' ≡ lits
  pub same_hints : hints' ≡ hints
  pub later : at ≤ next
  pub within : next ≤ length s

-- Where reading a step stopped: what had been stored, and that a token was taken for each, and at most two more.
pub record StepStopped (s : List ℕ) (at used : ℕ) (lits hints lits' hints' : List ℕ) (stop end many : ℕ) : Type 0 where
  pub new : List ℕ
  pub told : List ℕ
  pub placed : Placed lits used new lits' end
  pub noted : Placed hints 0 told hints' many
  pub at_least : length new + length told + length (tokens (drop stop s)) ≤ length (tokens (drop at s))
  pub at_most : length (tokens (drop at s)) ≤ length new + length told + 2 + length (tokens (drop stop s))
  pub later : at ≤ stop
  pub within : stop ≤ length s

-- Tokens are left, and they begin with no step.
pub record StepBad (s : List ℕ) (at used : ℕ) (lits hints lits' hints' : List ℕ) (stop end many : ℕ) : Type 0 where
  pub is : read_step (tokens (drop at s)) ≡ none
  pub left : 1 ≤ length (tokens (drop at s))
  pub stopped : StepStopped s at used lits hints lits' hints' stop end many

-- v stands as a literal in the step that the tokens begin with, as far as that can be read: the token behind `front`, which is
-- the beginning of a step, is one more literal of it.
pub record StandsIn (v : ℕ) (ts : List Token) : Type 0 where
  pub front : List Token
  pub token : Token
  pub rest : List Token
  pub is : ts ≡ front ++ (token ∷ rest)
  pub sofar : Partial
  pub reached : reach at_start front ≡ some sofar
  pub next : NextLiteral sofar token v

-- The step that the tokens begin with has a literal whose code, or that of its opposite, is not below `cells`.
pub record LargeIn (cells : ℕ) (ts : List Token) : Type 0 where
  pub variable : ℕ
  pub stands : StandsIn variable ts
  pub above : cells ≤ 2 * variable + 1

-- The token at `stop` did not fit: the place behind the last literal is the end of its slice, or that behind the last hint is, or
-- the token is a literal too large for `cells`. `step_short` in proofs/ compares the slices with the tokens from `at` on.
pub record StepShort (cells : ℕ) (s : List ℕ) (at used : ℕ) (lits hints lits' hints' : List ℕ) (stop end many : ℕ) : Type 0 where
  pub short : (length lits ≤ end) ⊎ ((length hints ≤ many) ⊎ LargeIn cells (tokens (drop at s)))
  pub stopped : StepStopped s at used lits hints lits' hints' stop end many
  pub begun : BeginsStep (tokens (drop at s)) (length stopped.new + length stopped.told)

-- Where reading stopped, and why.
abbrev pub stopped_at : Fault → ℕ → ℕ → ℕ → Stopped
stopped_at fault stop end many = record { fault = fault; at = stop; end = end; many = many }

-- What reading a step came to, by the answer.
abbrev pub FaultCase : ℕ → List ℕ → ℕ → ℕ → List ℕ → List ℕ → List ℕ → List ℕ → Fault → ℕ → ℕ → ℕ → Type 0
FaultCase cells s at used lits hints lits' hints' Unreadable stop end many = StepBad s at used lits hints lits' hints' stop end many
FaultCase cells s at used lits hints lits' hints' TooShort stop end many = StepShort cells s at used lits hints lits' hints' stop end many

abbrev pub KindCase : ℕ → List ℕ → ℕ → ℕ → List ℕ → List ℕ → List ℕ → List ℕ → Option Step → ℕ → Type 0
KindCase cells s at used lits hints lits' hints' (Some (Addition n end many)) next = StepAdded cells s at used lits hints lits' hints' n end many next
KindCase cells s at used lits hints lits' hints' (Some (Deletion many)) next = StepDeleted s at lits hints lits' hints' many next
KindCase cells s at used lits hints lits' hints' None next = StepNone s at lits hints lits' hints' next

abbrev pub StepCase : ℕ → List ℕ → ℕ → ℕ → List ℕ → List ℕ → List ℕ → List ℕ → Result Read Stopped → Type 0
StepCase cells s at used lits hints lits' hints' (Ok r) = KindCase cells s at used lits hints lits' hints' r.step r.next
StepCase cells s at used lits hints lits' hints' (Err r) = FaultCase cells s at used lits hints lits' hints' r.fault r.at r.end r.many

pub record ReadsStep (cells : ℕ) (s : List ℕ) (at used : ℕ) (lits hints lits' hints' : List ℕ) (r : Result Read Stopped) : Type 0 where
  pub case : StepCase cells s at used lits hints lits' hints' r
