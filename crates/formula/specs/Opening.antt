-- What the functions of src/opening.rt find, in terms of document 01's definitions (rules' Formula).
use Rattle.std.specs.Prelude.{ℕ, ◌+◌, ◌≤◌, ◌≡◌, true, false, List, leb, length, take, drop}
use Rattle.std.specs.Prelude.{Option as Maybe, Some, None}
use Rattle.std.proofs.Math.Option.{Option, none, some}
use Rattle.std.proofs.Math.Seq.{slice}
use Rattle.rules.specs.Formula.{after_comments, before, behind}
use Rattle.text.specs.declared.Token.{Token}
use Rattle.text.specs.declared.Token.TheVariants.{Nought, Plus, Minus, LetterD, Other, Nothing}
use Rattle.formula.specs.declared.opening.Header.{Header}

-- r is the place behind the rest of a comment line that goes on at `at`.
pub record AfterLine (s : List ℕ) (at r : ℕ) : Type 0 where
  pub same : after_comments true (drop at s) ≡ after_comments false (drop r s)
  pub later : at ≤ r
  pub within : r ≤ length s

-- r is the place behind all comment lines.
pub record AfterComments (s : List ℕ) (r : ℕ) : Type 0 where
  pub same : after_comments false s ≡ drop r s
  pub within : r ≤ length s

-- r is the place of the first byte x, or the end: what stands before it, and what stands behind it.
pub record FirstOf (x : ℕ) (s : List ℕ) (r : ℕ) : Type 0 where
  pub is_before : before x s ≡ take r s
  pub is_behind : behind x s ≡ drop (r + 1) s
  pub within : r ≤ length s

-- r is the first place from `at` on with the byte x, or the end: what stands before it, and what stands behind it.
pub record FirstAt (x : ℕ) (s : List ℕ) (at r : ℕ) : Type 0 where
  pub is_before : before x (drop at s) ≡ slice at r s
  pub is_behind : behind x (drop at s) ≡ drop (r + 1) s
  pub later : at ≤ r
  pub within : r ≤ length s

-- r is the first place behind the one at `place`, or the end.
pub record Behind (s : List ℕ) (place r : ℕ) : Type 0 where
  pub same : drop r s ≡ drop (place + 1) s
  pub later : place ≤ r
  pub within : r ≤ length s

-- A token as a number from 0 to a limit.
abbrev pub counted : ℕ → Token → Maybe ℕ
counted limit Nought = Some 0
counted limit (Plus v) = elim (leb v limit) [ true ↦ Some v | false ↦ None ]
counted limit (Minus v) = None
counted limit LetterD = None
counted limit Other = None
counted limit Nothing = None

-- A number that may be missing, as the functions give it.
abbrev pub count_of : Option ℕ → Maybe ℕ
count_of none = None
count_of (some n) = Some n

-- V and C, as the functions give them.
abbrev pub header_of : Option (ℕ × ℕ) → Maybe Header
header_of none = None
header_of (some r) = Some (record { vars = r.0; clauses = r.1 })
