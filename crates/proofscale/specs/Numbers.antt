-- Answers as the numbers of document 01, section 1, and the promises of `check` and `write` in terms of them.
use Rattle.std.specs.Prelude.{ℕ, ◌≡◌, ◌⊎◌, List, Result, Ok, Err, length}
use Rattle.std.proofs.Math.Option.{Option, none, some}
use Rattle.rules.specs.Answers.{answer_number, answer_step, verdict, Refuted}
use Rattle.formula.specs.Writing.{Writes}
use Rattle.formula.specs.declared.NotWritten.{NotWritten}
use Rattle.formula.specs.declared.NotWritten.TheVariants.{Unreadable, StoreTooShort, OutputTooShort}
use Rattle.checker.specs.Promises.{Enough, Short}
use Rattle.checker.specs.declared.Answer.{Answer}
use Rattle.checker.specs.declared.Answer.TheVariants.{Verified, UnreadableFormula, UnreadableStep, Refused, Unfinished, TooShort}

abbrev pub number_of : Answer → ℕ
number_of (Verified k) = 0
number_of UnreadableFormula = 1
number_of (UnreadableStep k) = 2
number_of (Refused k) = 3
number_of (Unfinished k) = 4
number_of TooShort = 5

-- The number that an answer comes with, or 0.
abbrev pub or_nought : Option ℕ → ℕ
or_nought none = 0
or_nought (some k) = k

-- exact: the number is 5 and the step 0, or number and step are those of the document's verdict.
abbrev pub ExactNumbers : List ℕ → List ℕ → ℕ → ℕ → Type 0
ExactNumbers f p r step = ((r ≡ 5) × (step ≡ 0)) ⊎ ((r ≡ answer_number (verdict f p)) × (step ≡ or_nought (answer_step (verdict f p))))

-- unsolvable: 0 means that the bytes spell a formula, and that it has no solution.
abbrev pub MeansNumber : List ℕ → ℕ → Type 0
MeansNumber f r = r ≡ 0 → Refuted f

-- room: with parts that are long enough the number is not 5.
abbrev pub RoomNumber : List ℕ → List ℕ → List ℕ → List ℕ → List ℕ → List ℕ → List ℕ → ℕ → Type 0
RoomNumber f p heads lits hints marks tape r = Enough f p heads lits hints marks tape → r ≡ 5 → ⊥

-- live: 5 is answered only for a reason that goes by the live clauses.
abbrev pub LiveNumber : List ℕ → List ℕ → List ℕ → List ℕ → List ℕ → List ℕ → List ℕ → ℕ → Type 0
LiveNumber f p heads lits hints marks tape r = r ≡ 5 → Short f p heads lits hints tape (length marks)

-- What writing a formula came to.
abbrev pub written_number : Result ℕ NotWritten → ℕ
written_number (Ok n) = 0
written_number (Err (Unreadable at)) = 1
written_number (Err (StoreTooShort at)) = 5
written_number (Err OutputTooShort) = 6

abbrev pub written_length : Result ℕ NotWritten → ℕ
written_length (Ok n) = n
written_length (Err (Unreadable at)) = at
written_length (Err (StoreTooShort at)) = at
written_length (Err OutputTooShort) = 0

pub record WritesNumbers (f heads lits out out' : List ℕ) (r n : ℕ) : Type 0 where
  pub written : Result ℕ NotWritten
  pub writes : Writes f heads lits out out' written
  pub is : r ≡ written_number written
  pub long : n ≡ written_length written
