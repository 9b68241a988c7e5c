-- Section 3, a formula: comment lines, the line p cnf V C, and exactly C clauses.
use Rattle.std.specs.Prelude.{ℕ, zero, suc, ◌≤◌, Bool, true, false, not, List, [], ◌∷◌, eqb, leb, length}
use Rattle.std.proofs.Math.Option.{Option, none, some}
use Rattle.meaning.specs.Meaning.{Clause, Formula, AllWithin}
use Rattle.rules.specs.Tools.{bytes, ◌>>=◌, only}
use Rattle.rules.specs.Limits.{max_variable, max_clauses}
use Rattle.rules.specs.Text.{Token, nought, plus, minus, letter_d, other, is_nought, token, tokens, literal}

-- What stands behind the comment lines: each is the letter c (99), any bytes, a line feed (10). `inside` says that s is the
-- rest of a comment line. A file that ends inside of one has nothing behind it.
unfoldable pub after_comments : Bool → List ℕ → List ℕ
after_comments inside [] = []
after_comments true (b ∷ s) = after_comments (not (eqb b 10)) s
after_comments false (b ∷ s) = elim (eqb b 99) [ true ↦ after_comments true s | false ↦ b ∷ s ]

-- The bytes of s before its first x, all of them if there is none, and those behind it.
unfoldable pub before : ℕ → List ℕ → List ℕ
before x [] = []
before x (b ∷ s) = elim (eqb b x) [ true ↦ [] | false ↦ b ∷ before x s ]

unfoldable pub behind : ℕ → List ℕ → List ℕ
behind x [] = []
behind x (b ∷ s) = elim (eqb b x) [ true ↦ s | false ↦ behind x s ]

-- What follows a prefix in s.
unfoldable pub after_prefix : List ℕ → List ℕ → Option (List ℕ)
after_prefix [] s = some s
after_prefix (x ∷ xs) [] = none
after_prefix (x ∷ xs) (b ∷ s) = elim (eqb x b) [ true ↦ after_prefix xs s | false ↦ none ]

-- V or C: a number from 0 to a limit.
unfoldable pub count : ℕ → Token → Option ℕ
count m nought = some 0
count m (plus n) = only (leb n m) n
count m (minus n) = none
count m letter_d = none
count m other = none

-- "The line p cnf V C, with single spaces, nothing before or after on it": V and C. (32 is the space.)
unfoldable pub header : List ℕ → Option (ℕ × ℕ)
unfolding after_prefix before behind count token
header line = do
  numbers ← after_prefix (bytes "p cnf ") line
  v ← count max_variable (token (before 32 numbers))
  c ← count max_clauses (token (behind 32 numbers))
  some (v, c)

-- Items up to a 0, and the tokens behind it. None if the tokens end first, or one of them is no such item.
unfoldable pub items : {A : Type 0} → (Token → Option A) → List Token → Option (List A × List Token)
items item [] = none
items item (t ∷ ts) =
    elim (is_nought t) [
      | true ↦ some ([], ts)
      | false ↦ do
        x ← item t
        (xs, rest) ← items item ts
        some (x ∷ xs, rest)
    ]

-- The first n clauses, over variables up to v, and the tokens behind them.
unfoldable pub read_clauses : ℕ → ℕ → List Token → Option (List Clause × List Token)
unfolding items literal
read_clauses v zero ts = some ([], ts)
read_clauses v (suc n) ts = do
  (c, rest) ← items (literal v) ts
  (cs, rest') ← read_clauses v n rest
  some (c ∷ cs, rest')

-- "Behind the last clause only blanks": no token is left.
abbrev pub at_end : {A : Type 0} → List Token → A → Option A
at_end [] x = some x
at_end (t ∷ ts) x = none

-- The formula that the bytes spell, or none if they are unreadable.
unfoldable pub read_formula : List ℕ → Option Formula
unfolding after_comments before behind header read_clauses tokens
read_formula s = do
  let text = after_comments false s
  (v, c) ← header (before 10 text)
  (cs, rest) ← read_clauses v c (tokens (behind 10 text))
  at_end rest (record { vars = v; clauses = cs })

-- A formula within the limits, as every formula that is read is (`read-within` in proofs/): V and the number of clauses, and
-- each literal's variable is one of 1 to V.
pub record WithinLimits (F : Formula) : Type 0 where
  pub few_variables : F.vars ≤ max_variable
  pub few_clauses : length F.clauses ≤ max_clauses
  pub all_within : AllWithin F.vars F.clauses
