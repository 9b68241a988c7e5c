-- Section 4, a proof: from its tokens to its steps, one after the other.
use Rattle.std.specs.Prelude.{ℕ, true, false, List, [], ◌∷◌, leb}
use Rattle.std.proofs.Math.Option.{Option, none, some}
use Rattle.meaning.specs.Meaning.{Clause}
use Rattle.rules.specs.Tools.{◌>>=◌, only}
use Rattle.rules.specs.Limits.{max_variable, max_id}
use Rattle.rules.specs.Text.{Token, nought, plus, minus, letter_d, other, is_letter_d, literal}
use Rattle.rules.specs.Formula.{items}

-- A hint: look at the clause with this id; or, written as a negative number, the group of the clause with this id begins.
pub data Hint : Type 0 where
  look : ℕ → Hint
  group : ℕ → Hint

-- A step: addition of a clause under an id, with hints; or deletion of the clauses with these ids.
pub data Step : Type 0 where
  add : ℕ → Clause → List Hint → Step
  delete : List ℕ → Step

-- "Ids are positive", and go up to a limit.
unfoldable pub clause_id : Token → Option ℕ
clause_id nought = none
clause_id (plus n) = only (leb n max_id) n
clause_id (minus n) = none
clause_id letter_d = none
clause_id other = none

-- "Hints are non-zero numbers whose size is an id."
unfoldable pub hint : Token → Option Hint
hint nought = none
hint (plus n) = only (leb n max_id) (look n)
hint (minus n) = only (leb n max_id) (group n)
hint letter_d = none
hint other = none

-- What stands behind a step's id n: the letter d and ids, up to a 0; or literals up to a 0 and hints up to a 0. "Literals in
-- steps may use variables above V."
unfoldable pub step_body : ℕ → List Token → Option (Step × List Token)
unfolding items literal clause_id hint
step_body n [] = none
step_body n (t ∷ ts) =
    elim (is_letter_d t) [
      | true ↦ do
        (ids, rest) ← items clause_id ts
        some (delete ids, rest)
      | false ↦ do
        (k, rest) ← items (literal max_variable) (t ∷ ts)
        (hs, rest') ← items hint rest
        some (add n k hs, rest')
    ]

-- The step that the tokens begin with, and the tokens behind it. None: "a token is none that may stand there or the file
-- ends inside it".
unfoldable pub read_step : List Token → Option (Step × List Token)
unfolding clause_id step_body
read_step [] = none
read_step (t ∷ ts) = do
  n ← clause_id t
  step_body n ts
