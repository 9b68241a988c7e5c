-- What a judgement says, in terms of document 01's section 5 (rules' Judging), and what judging asks for.
use Rattle.std.specs.Prelude.{ℕ, ◌+◌, ◌*◌, ◌<◌, ◌≡◌, List, Result, Ok, Err}
use Rattle.std.proofs.Math.Option.{Option, none, some}
use Rattle.rules.specs.Judging.{Ground as Wrong, id_not_fresh, opposite_literals, hint_not_live, hint_not_forced, no_conflict, groups_dont_match, Trail}
use Rattle.assignment.specs.Marks.{Shows}
use Rattle.judge.specs.Hints.{Ready}
use Rattle.judge.specs.declared.hints.Effect.{Effect}
use Rattle.judge.specs.declared.hints.Effect.TheVariants.{Forced, Conflict}
use Rattle.judge.specs.declared.hints.Fault.{Fault}
use Rattle.judge.specs.declared.hints.Fault.TheVariants.{NotLive, NotForced, TooShort as NoRoom}
use Rattle.addition.specs.declared.Ground.{Ground}
use Rattle.addition.specs.declared.Ground.TheVariants.{IdNotFresh, OppositeLiterals, HintNotLive, HintNotForced, NoConflict, GroupNoConflict, GroupsDontMatch}
use Rattle.addition.specs.declared.Failure.{Failure}
use Rattle.addition.specs.declared.Failure.TheVariants.{Refused, TooShort}

-- An addition is accepted, or this is why it is not.
abbrev pub Verdict : Type 0
Verdict = Result (Unit {0}) Failure

-- The ground of a refusal, in the document's terms.
abbrev pub ground_of : Ground → Wrong
ground_of (IdNotFresh n) = id_not_fresh n
ground_of OppositeLiterals = opposite_literals
ground_of (HintNotLive h) = hint_not_live h
ground_of (HintNotForced h) = hint_not_forced h
ground_of NoConflict = no_conflict none
ground_of (GroupNoConflict d) = no_conflict (some d)
ground_of (GroupsDontMatch d) = groups_dont_match d

-- The verdict says what is wrong, if anything; or the tape has less room than is needed at most.
abbrev pub SaysCase : Option Wrong → ℕ → ℕ → Verdict → Type 0
SaysCase fault room needed (Ok done) = fault ≡ none
SaysCase fault room needed (Err (Refused g)) = fault ≡ some (ground_of g)
SaysCase fault room needed (Err TooShort) = room < needed

pub record Says (fault : Option Wrong) (room needed : ℕ) (verdict : Verdict) : Type 0 where
  pub case : SaysCase fault room needed verdict

-- Why nothing is accepted behind a hint that is at fault.
abbrev pub failure_of : Fault → Failure
failure_of (NotLive h) = Refused (HintNotLive h)
failure_of (NotForced h) = Refused (HintNotForced h)
failure_of NoRoom = TooShort

-- What the hints of clause d's group come to, by what taking them came to.
abbrev pub verdict_by : Result Effect Fault → ℕ → Verdict
verdict_by (Ok Conflict) d = Ok tt
verdict_by (Ok Forced) d = Err (Refused (GroupNoConflict d))
verdict_by (Err f) d = Err (failure_of f)

-- The most turns that so many hints can take, those that begin groups among them, over a store with so many literals: a search
-- of less than 64 turns, each literal of a clause once to look at it and once to go back, and a few turns more.
unfoldable pub costs : ℕ → ℕ → ℕ
costs literals codes = codes * (2 * literals + 70)

-- What judging asks for: a store, and marks that show some assignment.
pub record Fit (heads lits : List ℕ) (n : ℕ) (marks : List ℕ) : Type 0 where
  pub ready : Ready heads lits n marks
  pub trail : Trail
  pub shows : Shows marks trail
