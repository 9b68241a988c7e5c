-- What reading a formula comes to, in terms of document 01's `read_formula`.
use Rattle.std.specs.Prelude.{ℕ, ◌+◌, ◌*◌, ◌/◌, ◌<◌, ◌≤◌, ◌≡◌, ◌⊎◌, Bool, true, false, List, [], ◌∷◌, length, take, drop, get_or, Result, Ok, Err}
use Rattle.std.proofs.Math.Option.{Option, none, some}
use Rattle.meaning.specs.Meaning.{Formula}
use Rattle.rules.specs.Tools.{◌>>=◌}
use Rattle.rules.specs.Text.{Token, tokens}
use Rattle.rules.specs.Formula.{read_clauses, at_end, read_formula}
use Rattle.rules.specs.Answers.{numbered}
use Rattle.clauses.specs.Store.{Holds}
use Rattle.formula.specs.Body.{greatest}
use Rattle.formula.specs.declared.Fault.{Fault}
use Rattle.formula.specs.declared.Fault.TheVariants.{Unreadable, TooShort}
use Rattle.formula.specs.declared.Stopped.{Stopped}
use Rattle.formula.specs.declared.Stored.{Stored}

-- Whether tokens are left.
abbrev pub EndedCase : List Token → Bool → Type 0
EndedCase ts true = ts ≡ []
EndedCase ts false = (t : Token) × (rest : List Token) × (ts ≡ t ∷ rest)

pub record Ended (ts : List Token) (r : Bool) : Type 0 where
  pub case : EndedCase ts r

-- The formula that the tokens behind the line `p cnf V C` say.
unfoldable pub rest_of : ℕ → ℕ → List Token → Option Formula
unfolding read_clauses
rest_of v c ts = do
  (cs, rest) ← read_clauses v c ts
  at_end rest (record { vars = v; clauses = cs })

-- The end of reading, where all clauses are in the store, and these are their literals.
abbrev pub FinishCase : List ℕ → ℕ → ℕ → ℕ → List ℕ → Result Stored Stopped → Type 0
FinishCase s next v c lits (Ok r) = (tokens (drop next s) ≡ []) × (r ≡ record { vars = v; clauses = c; used = length lits; top = greatest lits / 2 })
FinishCase s next v c lits (Err stop) =
    EndedCase (tokens (drop next s)) false × (stop ≡ record { fault = Unreadable; at = next; used = length lits; closed = c })

pub record Finishes (s : List ℕ) (next v c : ℕ) (lits : List ℕ) (r : Result Stored Stopped) : Type 0 where
  pub case : FinishCase s next v c lits r

-- The bytes s spell the formula o, if they spell one, and it was stored: its clauses, in order, literal by literal, none lost
-- or gained, with ids 1 to C.
pub record IsStored (o : Option Formula) (s : List ℕ) (heads lits : List ℕ) (vars clauses used top : ℕ) : Type 0 where
  pub formula : Formula
  pub is : o ≡ some formula
  pub is_vars : vars ≡ formula.vars
  pub is_clauses : clauses ≡ length formula.clauses
  pub holds : Holds heads lits clauses used clauses (numbered 0 formula.clauses)
  pub is_top : top ≡ greatest (take used lits) / 2
  pub below : (i : ℕ) → i < used → get_or lits i 0 < 2 * vars + 2
  pub few : 2 * (used + clauses) ≤ length s + 1

-- The bytes are unreadable.
pub record IsUnreadable (o : Option Formula) (s : List ℕ) (at used closed : ℕ) : Type 0 where
  pub is : o ≡ none
  pub within : at ≤ length s
  pub few : 2 * (used + closed) ≤ length s + 1

-- One of the two parts is too short for some text of this length.
pub record IsTooShort (s : List ℕ) (heads lits : List ℕ) (at used closed : ℕ) : Type 0 where
  pub short : (2 * length lits < length s + 1) ⊎ (2 * length heads < 3 * length s + 9)
  pub within : at ≤ length s
  pub few : 2 * (used + closed) ≤ length s + 1

-- Why reading stopped.
abbrev pub ReadStopped : Option Formula → List ℕ → List ℕ → List ℕ → ℕ → ℕ → ℕ → Fault → Type 0
ReadStopped o s heads₀ lits₀ at used closed Unreadable = IsUnreadable o s at used closed
ReadStopped o s heads₀ lits₀ at used closed TooShort = IsTooShort s heads₀ lits₀ at used closed

abbrev pub ReadCase : Option Formula → List ℕ → List ℕ → List ℕ → List ℕ → List ℕ → Result Stored Stopped → Type 0
ReadCase o s heads₀ lits₀ heads lits (Ok r) = IsStored o s heads lits r.vars r.clauses r.used r.top
ReadCase o s heads₀ lits₀ heads lits (Err stop) = ReadStopped o s heads₀ lits₀ stop.at stop.used stop.closed stop.fault

pub record ReadsRest (v c : ℕ) (s : List ℕ) (line : ℕ) (heads₀ lits₀ heads lits : List ℕ) (r : Result Stored Stopped) : Type 0 where
  pub case : ReadCase (rest_of v c (tokens (drop (line + 1) s))) s heads₀ lits₀ heads lits r

-- Stored exactly if the bytes spell a formula, and then the store holds it; unreadable exactly if they spell none; too short
-- only if a part is shorter than stated.
pub record Reads (s : List ℕ) (heads₀ lits₀ heads lits : List ℕ) (r : Result Stored Stopped) : Type 0 where
  pub case : ReadCase (read_formula s) s heads₀ lits₀ heads lits r
