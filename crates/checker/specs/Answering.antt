-- What the functions between the run and the front door promise.
use Rattle.std.specs.Prelude.{ℕ, ◌+◌, ◌*◌, ◌/◌, ◌%◌, ◌<◌, ◌≤◌, ◌≡◌, ◌⊎◌, Result, Ok, Err, Bool, true, false, List, [], length, get_or, take}
use Rattle.meaning.specs.Meaning.{Formula}
use Rattle.rules.specs.Text.{tokens}
use Rattle.rules.specs.Judging.{Ground}
use Rattle.rules.specs.Answers.{ends_verified, ends_unreadable_step, ends_refused, ends_unfinished, numbered, start, checked}
use Rattle.clauses.specs.Counting.{Reaches}
use Rattle.clauses.specs.Store.{Holds}
use Rattle.assignment.specs.Marks.{Shows, Paired}
use Rattle.formula.specs.Body.{greatest}
use Rattle.formula.specs.declared.Fault.{Fault}
use Rattle.formula.specs.declared.Fault.TheVariants.{Unreadable as NotReadable, TooShort as NoRoom}
use Rattle.checker.specs.Promises.{Exact, NoMark, ShortAt, Short, time_bound, step_of}
use Rattle.checker.specs.declared.Answer.{Answer}
use Rattle.checker.specs.declared.Answer.TheVariants.{Verified, UnreadableFormula, UnreadableStep, Refused, Unfinished, TooShort}
use Rattle.checker.specs.declared.running.Finish.{Finish}
use Rattle.checker.specs.declared.running.Finish.TheVariants.{Verified as EndsVerified, Unfinished as EndsUnfinished}
use Rattle.checker.specs.declared.running.Stop.{Stop}
use Rattle.stepping.specs.declared.Failure.{Failure}
use Rattle.stepping.specs.declared.Failure.TheVariants.{Refused as IsRefused, TooShort as IsTooShort, Unreadable as IsUnreadable}

-- The answer, where a step was not taken: the ground is dropped here.
abbrev pub stopped_by : ℕ → Failure → Answer
stopped_by k (IsRefused g) = Refused k
stopped_by k IsTooShort = TooShort
stopped_by k IsUnreadable = UnreadableStep k

-- The answer, by how the run ended.
abbrev pub answer_by : Result Finish Stop → Answer
answer_by (Ok (EndsVerified k)) = Verified k
answer_by (Ok (EndsUnfinished k)) = Unfinished k
answer_by (Err x) = stopped_by x.step x.why

-- The answer, where the formula was not read.
abbrev pub unread_by : Fault → Answer
unread_by NotReadable = UnreadableFormula
unread_by NoRoom = TooShort

-- How many of so many marks are used: an even number, and all that any literal can need.
pub record Cells (marks r : ℕ) : Type 0 where
  pub within : r ≤ marks
  pub even : r % 2 ≡ 0
  pub few : r ≤ 33_554_432
  pub enough : (m : ℕ) → m % 2 ≡ 0 → m ≤ marks → m ≤ 33_554_432 → m ≤ r

-- No mark is set.
pub record Cleared (marks : List ℕ) : Type 0 where
  pub zero : (i : ℕ) → i < length marks → get_or marks i 0 ≡ 0

-- What reading a formula is charged.
pub record Charged (bytes used closed r : ℕ) : Type 0 where
  pub at_least : Reaches (4 * bytes + 2 * used + 2 * closed + 2) r
  pub at_most : r ≤ 4 * bytes + 2 * used + 2 * closed + 2

-- Each literal has a mark, or there is none; or the greatest has none.
abbrev pub HasCase : ℕ → ℕ → ℕ → Bool → Type 0
HasCase marks used top true = (used ≡ 0) ⊎ (2 * top + 1 < marks)
HasCase marks used top false = (1 ≤ used) × (marks ≤ 2 * top + 1)

pub record HasMarks (marks used top : ℕ) (r : Bool) : Type 0 where
  pub case : HasCase marks used top r

-- The clauses of a formula are in the store, and no mark is set.
pub record Begun (heads lits marks : List ℕ) (n used top : ℕ) : Type 0 where
  pub formula : Formula
  pub holds : Holds heads lits n used n (numbered 0 formula.clauses)
  pub is_n : n ≡ length formula.clauses
  pub is_top : top ≡ greatest (take used lits) / 2
  pub paired : Paired marks
  pub clear : Shows marks []

-- The step was refused, on some ground.
pub record RefusedAt (F : Formula) (proof : List ℕ) (k : ℕ) : Type 0 where
  pub ground : Ground
  pub is : checked F (tokens proof) ≡ ends_refused k ground

-- What the answer says of the formula in the store.
abbrev pub AnswerCase : Formula → List ℕ → List ℕ → List ℕ → List ℕ → List ℕ → ℕ → ℕ → Answer → Type 0
AnswerCase F proof heads lits hints tape cells stored (Verified k) = checked F (tokens proof) ≡ ends_verified k
AnswerCase F proof heads lits hints tape cells stored UnreadableFormula = ⊥
AnswerCase F proof heads lits hints tape cells stored (UnreadableStep k) = checked F (tokens proof) ≡ ends_unreadable_step k
AnswerCase F proof heads lits hints tape cells stored (Refused k) = RefusedAt F proof k
AnswerCase F proof heads lits hints tape cells stored (Unfinished k) = checked F (tokens proof) ≡ ends_unfinished k
AnswerCase F proof heads lits hints tape cells stored TooShort =
    NoMark F cells ⊎ ShortAt heads lits hints tape cells (start F) (tokens proof) (stored + length (tokens proof))

pub record Answers (proof heads lits hints marks tape : List ℕ) (n used : ℕ) (a : Answer) : Type 0 where
  pub case : (F : Formula) → Holds heads lits n used n (numbered 0 F.clauses) → n ≡ length F.clauses
      → AnswerCase F proof heads lits hints tape (length marks) (n + used) a

-- What all functions together come to, with so many marks.
pub record ChecksMarked (f p heads lits hints marks tape : List ℕ) (a : Answer) (turns : ℕ) : Type 0 where
  pub exact : Exact f p a
  pub short : a ≡ TooShort → Short f p heads lits hints tape (length marks)
  pub least : step_of a ≤ turns
  pub most : turns ≤ time_bound (length f) (length p)
