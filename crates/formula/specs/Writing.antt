-- What writing a formula comes to, in terms of document 01's `read_formula` and of `write_formula`.
use Rattle.std.specs.Prelude.{ℕ, ◌+◌, ◌*◌, ◌<◌, ◌≡◌, ◌⊎◌, List, ◌++◌, length, drop, Result, Ok, Err}
use Rattle.std.proofs.Math.Option.{none, some}
use Rattle.meaning.specs.Meaning.{Formula}
use Rattle.rules.specs.Formula.{read_formula}
use Rattle.rules.specs.Written.{write_formula}
use Rattle.formula.specs.declared.Fault.TheVariants.{Unreadable as NotReadable, TooShort}
use Rattle.formula.specs.declared.Stopped.{Stopped}
use Rattle.formula.specs.declared.NotWritten.{NotWritten}
use Rattle.formula.specs.declared.NotWritten.TheVariants.{Unreadable, StoreTooShort, OutputTooShort}

-- Why nothing was written, where reading stopped.
abbrev pub not_read : Stopped → NotWritten
not_read stop = elim stop.fault [ NotReadable ↦ Unreadable stop.at | TooShort ↦ StoreTooShort stop.at ]

-- The output begins with F written out, and what lies behind is as it was.
pub record IsWritten (F : Formula) (before after : List ℕ) (n : ℕ) : Type 0 where
  pub ends : n ≡ length (write_formula F)
  pub is : after ≡ write_formula F ++ drop n before

-- F does not fit, and the output is as it was.
pub record IsTooLong (F : Formula) (before after : List ℕ) : Type 0 where
  pub longer : length before < length (write_formula F)
  pub same : after ≡ before

abbrev pub StoredCase : Formula → List ℕ → List ℕ → Result ℕ NotWritten → Type 0
StoredCase F before after (Ok n) = IsWritten F before after n
StoredCase F before after (Err e) = (e ≡ OutputTooShort) × IsTooLong F before after

pub record WritesStored (F : Formula) (before after : List ℕ) (r : Result ℕ NotWritten) : Type 0 where
  pub case : StoredCase F before after r

-- The bytes s spell a formula of which something holds.
pub record Spelled (s : List ℕ) (P : Formula → Type 0) : Type 0 where
  pub formula : Formula
  pub is : read_formula s ≡ some formula
  pub holds : P formula

-- Why nothing was written.
abbrev pub NotWrittenCase : List ℕ → List ℕ → List ℕ → List ℕ → List ℕ → NotWritten → Type 0
NotWrittenCase s heads lits before after (Unreadable at) = (read_formula s ≡ none) × (after ≡ before)
NotWrittenCase s heads lits before after (StoreTooShort at) = ((2 * length lits < length s + 1) ⊎ (2 * length heads < 3 * length s + 9)) × (after ≡ before)
NotWrittenCase s heads lits before after OutputTooShort = Spelled s (λ F. IsTooLong F before after)

-- On every refusal the output is as it was, byte for byte.
abbrev pub WriteCase : List ℕ → List ℕ → List ℕ → List ℕ → List ℕ → Result ℕ NotWritten → Type 0
WriteCase s heads lits before after (Ok n) = Spelled s (λ F. IsWritten F before after n)
WriteCase s heads lits before after (Err e) = NotWrittenCase s heads lits before after e

pub record Writes (s : List ℕ) (heads lits before after : List ℕ) (r : Result ℕ NotWritten) : Type 0 where
  pub case : WriteCase s heads lits before after r
