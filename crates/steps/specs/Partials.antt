-- A step of a proof that is read in part: what is known of it between two tokens, what one token more makes of it, and what the
-- tokens from there on make of it, by document 01's `read_step`. Nothing here knows where the tokens come from.
use Rattle.std.specs.Prelude.{ℕ, ◌+◌, true, false, List, [], ◌∷◌, ◌++◌, length}
use Rattle.std.proofs.Math.Option.{Option, none, some}
use Rattle.meaning.specs.Meaning.{Clause}
use Rattle.rules.specs.Tools.{◌>>=◌}
use Rattle.rules.specs.Limits.{max_variable}
use Rattle.rules.specs.Text.{Token, is_nought, is_letter_d, literal}
use Rattle.rules.specs.Formula.{items}
use Rattle.rules.specs.Steps.{Hint, Step, add, delete, clause_id, hint, step_body, read_step}

-- Nothing is read; the id; the id and literals; the id, the literals, and hints; ids to delete.
pub data Partial : Type 0 where
  at_start : Partial
  got_id : ℕ → Partial
  in_literals : ℕ → Clause → Partial
  in_hints : ℕ → Clause → List Hint → Partial
  in_ids : List ℕ → Partial

-- What the tokens from here on make of it: the step, and the tokens behind it.
unfoldable pub resume : Partial → List Token → Option (Step × List Token)
unfolding read_step step_body items
resume at_start ts = read_step ts
resume (got_id n) ts = step_body n ts
resume (in_literals n k) ts = do
  (more, rest) ← items (literal max_variable) ts
  (hs, rest') ← items hint rest
  some (add n (k ++ more) hs, rest')
resume (in_hints n k hs) ts = do
  (more, rest) ← items hint ts
  some (add n k (hs ++ more), rest)
resume (in_ids ids) ts = do
  (more, rest) ← items clause_id ts
  some (delete (ids ++ more), rest)

-- What one token comes to: more is to be read, the step is whole, or there is none.
pub data Advance : Type 0 where
  goes_on : Partial → Advance
  ends : Step → Advance
  unreadable : Advance

-- An item, or the 0 behind the items.
unfoldable pub item_or : {A : Type 0} → (Token → Option A) → (A → Advance) → Advance → Token → Advance
item_or item on end t = elim (is_nought t) [ true ↦ end | false ↦ elim (item t) [ none ↦ unreadable | some x ↦ on x ] ]

-- A literal behind the literals k, or their 0.
unfoldable pub literal_or : ℕ → Clause → Token → Advance
unfolding item_or
literal_or n k t = item_or (literal max_variable) (λ l. goes_on (in_literals n (k ++ (l ∷ [])))) (goes_on (in_hints n k [])) t

-- One token more. `resume-advance` in proofs/ says that it makes of `resume` what it should.
unfoldable pub advance : Partial → Token → Advance
unfolding item_or literal_or
advance at_start t = elim (clause_id t) [ none ↦ unreadable | some n ↦ goes_on (got_id n) ]
advance (got_id n) t = elim (is_letter_d t) [ true ↦ goes_on (in_ids []) | false ↦ literal_or n [] t ]
advance (in_literals n k) t = literal_or n k t
advance (in_hints n k hs) t = item_or hint (λ h. goes_on (in_hints n k (hs ++ (h ∷ [])))) (ends (add n k hs)) t
advance (in_ids ids) t = item_or clause_id (λ n. goes_on (in_ids (ids ++ (n ∷ [])))) (ends (delete ids)) t

-- What the tokens behind it make of that.
unfoldable pub afterwards : Advance → List Token → Option (Step × List Token)
unfolding resume
afterwards (goes_on p) ts = resume p ts
afterwards (ends step) ts = some (step, ts)
afterwards unreadable ts = none

-- What is read of a step behind these tokens, if it is neither whole nor unreadable by then.
unfoldable pub reach : Partial → List Token → Option Partial
unfolding advance
reach p [] = some p
reach p (t ∷ ts) = elim (advance p t) [ goes_on q ↦ reach q ts | ends step ↦ none | unreadable ↦ none ]

-- How many tokens were read.
abbrev pub taken : Partial → ℕ
taken at_start = 0
taken (got_id n) = 1
taken (in_literals n k) = length k + 1
taken (in_hints n k hs) = length k + length hs + 2
taken (in_ids ids) = length ids + 2

-- How many tokens a whole step has.
abbrev pub step_tokens : Step → ℕ
step_tokens (add n k hs) = length k + length hs + 3
step_tokens (delete ids) = length ids + 3
