-- Laws of verdicts: what they say, with more room needed, and how far hints go on the tape. Assumes nothing.
use Rattle.std.proofs.Common.{ℕ, ◌+◌, ◌≤◌, ◌≡◌, ◌∙◌, arith, Result, Ok, Err}
use Rattle.std.proofs.Math.Option.{Option}
use Rattle.rules.specs.Judging.{Ground as Wrong}
use Rattle.judge.specs.Hints.{PassedCase as HintsPassed}
use Rattle.judge.specs.declared.hints.Effect.{Effect}
use Rattle.judge.specs.declared.hints.Effect.TheVariants.{Forced, Conflict}
use Rattle.judge.specs.declared.hints.Fault.{Fault}
use Rattle.judge.specs.declared.hints.Fault.TheVariants.{NotLive, NotForced, TooShort as NoRoom}
use Rattle.addition.specs.Verdicts.{Verdict, Says}
use Rattle.addition.specs.declared.Failure.TheVariants.{Refused, TooShort}

-- What a verdict says holds too where more room is needed, and of an equal fault.
says_by : (fault fault' : Option Wrong) (room needed room' needed' : ℕ) (v : Verdict) → fault' ≡ fault → room ≡ room' → needed ≤ needed' → Says fault room needed v → Says fault' room' needed' v
says_by fault fault' room needed room' needed' (Ok done) e r m s = record { case = e ∙ s.case }
says_by fault fault' room needed room' needed' (Err (Refused g)) e r m s = record { case = e ∙ s.case }
says_by fault fault' room needed room' needed' (Err TooShort) e r m s = record { case = omega (arith, s.case) }

pub says_more : {fault fault' : Option Wrong} {room needed room' needed' : ℕ} {v : Verdict} → fault' ≡ fault → room ≡ room' → needed ≤ needed' → Says fault room needed v → Says fault' room' needed' v
says_more = says_by _ _ _ _ _ _ _

-- How far the tape went.
pub passed_few : (many room t t' : ℕ) (taken : Result Effect Fault) → HintsPassed many room t t' taken → t' ≤ t + many
passed_few many room t t' (Ok Conflict) p = omega arith
passed_few many room t t' (Ok Forced) p = omega arith
passed_few many room t t' (Err (NotLive h)) p = omega arith
passed_few many room t t' (Err (NotForced h)) p = omega arith
passed_few many room t t' (Err NoRoom) p = omega (arith, p.0)
