-- From answers to numbers. Assumes nothing.
use Rattle.std.proofs.Common.{ℕ, ◌≤◌, ◌≡◌, refl, ap, inl, inr, ⊎_elim, List, arith, length}
use Rattle.std.proofs.Math.Option.{some}
use Rattle.rules.specs.Answers.{answer_number, answer_step, verdict, Refuted}
use Rattle.rules.specs.Answers.{Answer as Verdict}
use Rattle.rules.proofs.Options.{some_inj, none-some}
use Rattle.checker.specs.Promises.{said, Exact, Means, Room, FollowsLive, step_of, time_bound}
use Rattle.checker.specs.declared.Answer.{Answer}
use Rattle.checker.specs.declared.Answer.TheVariants.{Verified, UnreadableFormula, UnreadableStep, Refused, Unfinished, TooShort}
use Rattle.proofscale.specs.Numbers.{number_of, or_nought, ExactNumbers, MeansNumber, RoomNumber, LiveNumber}

-- What an answer says has its number and its step.
said_numbers : (a : Answer) (v : Verdict) → said a ≡ some v → (number_of a ≡ answer_number v) × (step_of a ≡ or_nought (answer_step v))
said_numbers (Verified k) v e = rw (← some_inj e) (refl, refl)
said_numbers UnreadableFormula v e = rw (← some_inj e) (refl, refl)
said_numbers (UnreadableStep k) v e = rw (← some_inj e) (refl, refl)
said_numbers (Refused k) v e = rw (← some_inj e) (refl, refl)
said_numbers (Unfinished k) v e = rw (← some_inj e) (refl, refl)
said_numbers TooShort v e = none-some e

only_short : (a : Answer) → number_of a ≡ 5 → a ≡ TooShort
only_short (Verified k) e = absurd (omega arith)
only_short UnreadableFormula e = absurd (omega arith)
only_short (UnreadableStep k) e = absurd (omega arith)
only_short (Refused k) e = absurd (omega arith)
only_short (Unfinished k) e = absurd (omega arith)
only_short TooShort e = refl

means_number : (f : List ℕ) (a : Answer) → Means f a → number_of a ≡ 0 → Refuted f
means_number f (Verified k) m e = m k refl
means_number f UnreadableFormula m e = absurd (omega arith)
means_number f (UnreadableStep k) m e = absurd (omega arith)
means_number f (Refused k) m e = absurd (omega arith)
means_number f (Unfinished k) m e = absurd (omega arith)
means_number f TooShort m e = absurd (omega arith)

exact_numbers : (f p : List ℕ) (a : Answer) → Exact f p a → ExactNumbers f p (number_of a) (step_of a)
exact_numbers f p a x = ⊎_elim (λ short. inl (ap number_of short, ap step_of short)) (λ says. inr (said_numbers a (verdict f p) says)) x

pub check_numbers : (f p heads lits hints marks tape : List ℕ) (a : Answer) (turns : ℕ)
    → Exact f p a × (Means f a × (Room f p heads lits hints marks tape a × (FollowsLive f p heads lits hints marks tape a × ((turns ≤ time_bound (length f) (length p)) × (step_of a ≤ turns)))))
    → (r step : ℕ) → r ≡ number_of a → step ≡ step_of a
    → ExactNumbers f p r step × (MeansNumber f r × (RoomNumber f p heads lits hints marks tape r × (LiveNumber f p heads lits hints marks tape r × ((turns ≤ time_bound (length f) (length p)) × (step ≤ turns)))))
check_numbers f p heads lits hints marks tape a turns x r step e q =
    rw (e, q)
    (exact_numbers f p a x.0, (means_number f a x.1.0, ((λ n z. x.1.1.0 n (only_short a z)), ((λ z. x.1.1.1.0 (only_short a z)), x.1.1.1.1))))
