-- What `check` promises, in terms of document 01's `verdict` (rules' Answers) and of `Unsolvable` (meaning).
use Rattle.std.specs.Prelude.{ℕ, ◌+◌, ◌*◌, ◌/◌, ◌<◌, ◌≤◌, ◌≡◌, ◌⊎◌, List, [], ◌∷◌, length}
use Rattle.std.proofs.Math.Option.{Option, none, some}
use Rattle.meaning.specs.Meaning.{variable, Clause, Formula}
use Rattle.rules.specs.Text.{Token, tokens}
use Rattle.rules.specs.Formula.{read_formula}
use Rattle.rules.specs.Steps.{Step, read_step}
use Rattle.rules.specs.Judging.{State, judge, goes_on}
use Rattle.rules.specs.Answers.{verified, unreadable_formula, unreadable_step, refused_step, unfinished, start, verdict, Refuted}
use Rattle.rules.specs.Answers.{Answer as Verdict}
use Rattle.deletion.specs.Deleting.{weight}
use Rattle.steps.specs.Reading.{StandsIn}
use Rattle.stepping.specs.Stepping.{Lacks}
use Rattle.checker.specs.declared.Answer.{Answer}
use Rattle.checker.specs.declared.Answer.TheVariants.{Verified, UnreadableFormula, UnreadableStep, Refused, Unfinished, TooShort}

-- The answer

-- What an answer says, in the document's terms; "too short" says nothing of the two files.
abbrev pub said : Answer → Option Verdict
said (Verified k) = some (verified k)
said UnreadableFormula = some unreadable_formula
said (UnreadableStep k) = some (unreadable_step k)
said (Refused k) = some (refused_step k)
said (Unfinished k) = some (unfinished k)
said TooShort = none

-- exact: the answer is "too short", or it is the document's verdict on the two byte strings, answer and step.
abbrev pub Exact : List ℕ → List ℕ → Answer → Type 0
Exact f p a = (a ≡ TooShort) ⊎ (said a ≡ some (verdict f p))

-- unsolvable: "verified", at whatever step, means that the bytes spell a formula, and that it has no solution.
abbrev pub Means : List ℕ → Answer → Type 0
Means f a = (k : ℕ) → a ≡ Verified k → Refuted f

-- Time

-- time: the most turns that all loops make together, for a formula of f bytes and a proof of p bytes. (The first number is for
-- the marks, of which each is cleared once.)
abbrev pub time_bound : ℕ → ℕ → ℕ
time_bound f p = 33_554_442 + 6 * (f + p) + (p + 1) * (f + p + 75)

-- The number of the step that an answer comes with.
abbrev pub step_of : Answer → ℕ
step_of (Verified k) = k
step_of UnreadableFormula = 0
step_of (UnreadableStep k) = k
step_of (Refused k) = k
step_of (Unfinished k) = k
step_of TooShort = 0

-- The variables that occur

-- v is the variable of a literal of the clause; of one of the clauses.
abbrev pub InClause : ℕ → Clause → Type 0
InClause v [] = ⊥
InClause v (l ∷ c) = (variable l ≡ v) ⊎ InClause v c

abbrev pub InClauses : ℕ → List Clause → Type 0
InClauses v [] = ⊥
InClauses v (c ∷ cs) = InClause v c ⊎ InClauses v cs

-- Steps that are read and allowed lead from one state and the tokens there to another.
pub data Leads (s : State) (ts : List Token) : State → List Token → Type 0 where
  here : Leads s ts s ts
  then : {s₁ s₂ : State} {ts₁ : List Token} (r : Step × List Token) → Leads s ts s₁ ts₁ → read_step ts₁ ≡ some r → judge s₁ r.0 ≡ goes_on s₂ → Leads s ts s₂ r.1

-- v occurs in the formula; v stands as a literal in a step that is come to, as far as that can be read (steps' Reading).
pub record InFormula (f : List ℕ) (v : ℕ) : Type 0 where
  pub formula : Formula
  pub is : read_formula f ≡ some formula
  pub stands : InClauses v formula.clauses

pub record InProof (f p : List ℕ) (v : ℕ) : Type 0 where
  pub formula : Formula
  pub is : read_formula f ≡ some formula
  pub state : State
  pub rest : List Token
  pub leads : Leads (start formula) (tokens p) state rest
  pub stands : StandsIn v rest

abbrev pub Occurs : List ℕ → List ℕ → ℕ → Type 0
Occurs f p v = InFormula f v ⊎ InProof f p v

-- Room

-- How long the parts of the work store have to be, in numbers, for a formula of f bytes and a proof of p bytes with variables
-- up to v.
abbrev pub heads_for : ℕ → ℕ → ℕ
heads_for f p = (3 * (f + p) + 12) / 2

abbrev pub lits_for : ℕ → ℕ → ℕ
lits_for f p = (f + p + 3) / 2

abbrev pub hints_for : ℕ → ℕ
hints_for p = (p + 2) / 2

abbrev pub tape_for : ℕ → ℕ → ℕ
tape_for f p = f + p + 2

abbrev pub marks_for : ℕ → ℕ
marks_for v = 2 * v + 2

-- The parts are long enough. (The table of guesses may have any length.)
pub record Enough (f p heads lits hints marks tape : List ℕ) : Type 0 where
  pub in_heads : heads_for (length f) (length p) ≤ length heads
  pub in_lits : lits_for (length f) (length p) ≤ length lits
  pub in_hints_lem : hints_for (length p) ≤ length hints
  pub in_tape : tape_for (length f) (length p) ≤ length tape
  pub in_marks : (v : ℕ) → Occurs f p v → marks_for v ≤ length marks

-- room: with parts that are long enough the answer is not "too short".
abbrev pub Room : List ℕ → List ℕ → List ℕ → List ℕ → List ℕ → List ℕ → List ℕ → Answer → Type 0
Room f p heads lits hints marks tape a = Enough f p heads lits hints marks tape → a ≡ TooShort → ⊥

-- A variable of the formula has no marks.
pub record NoMark (F : Formula) (cells : ℕ) : Type 0 where
  pub variable : ℕ
  pub occurs : InClauses variable F.clauses
  pub above : cells ≤ 2 * variable + 1

-- At a step that is come to, a part is too short for it and for a store that has n clauses and `used` literals: at most twice
-- what the live clauses take, and no more than there are tokens up to there.
pub record ShortAt (heads lits hints tape : List ℕ) (cells : ℕ) (s₀ : State) (ts₀ : List Token) (all : ℕ) : Type 0 where
  pub state : State
  pub rest : List Token
  pub leads : Leads s₀ ts₀ state rest
  pub n : ℕ
  pub used : ℕ
  pub twice : n + used ≤ 2 * weight state.live
  pub few : n + used + length rest ≤ all
  pub lacks : Lacks heads lits hints tape cells n used rest

-- The formula was stored, and then a part was too short.
pub record ShortLater (f p heads lits hints tape : List ℕ) (cells : ℕ) : Type 0 where
  pub formula : Formula
  pub is : read_formula f ≡ some formula
  pub all : ℕ
  pub few : 2 * all ≤ length f + length p + 2
  pub short : NoMark formula cells ⊎ ShortAt heads lits hints tape cells (start formula) (tokens p) all

-- Why a part is too short: for the formula; or later.
abbrev pub Short : List ℕ → List ℕ → List ℕ → List ℕ → List ℕ → List ℕ → ℕ → Type 0
Short f p heads lits hints tape cells =
    ((2 * length lits < length f + 1) ⊎ (2 * length heads < 3 * length f + 9)) ⊎ ShortLater f p heads lits hints tape cells

-- live: "too short" is answered only for a reason that goes by the live clauses, not by the length of the proof.
abbrev pub FollowsLive : List ℕ → List ℕ → List ℕ → List ℕ → List ℕ → List ℕ → List ℕ → Answer → Type 0
FollowsLive f p heads lits hints marks tape a = a ≡ TooShort → Short f p heads lits hints tape (length marks)
