-- Laws of the Boolean connectives, in the forms in which a proof takes a test apart. Assumes nothing.
use Rattle.std.proofs.Common.{◌≡◌, refl, sym, ◌∙◌, ◌⊎◌, inl, inr, Bool, true, false, ◌&&◌, ◌||◌, true≢false}
use Rattle.std.proofs.Math.Bool.{false≢true}

-- A case on a test that keeps its equation.
pub bool_cases {ℓ} : {X : Type ℓ} (b : Bool) → (b ≡ true → X) → (b ≡ false → X) → X
bool_cases true f g = f refl
bool_cases false f g = g refl

pub clash : {b : Bool} → b ≡ true → b ≡ false → ⊥
clash p q = true≢false (sym p ∙ q)

pub or_cases : (b c : Bool) → (b || c) ≡ true → (b ≡ true) ⊎ (c ≡ true)
or_cases true c e = inl refl
or_cases false c e = inr e

pub or_left : (b c : Bool) → b ≡ true → (b || c) ≡ true
or_left true c e = refl
or_left false c e = absurd (false≢true e)

pub or_right : (b c : Bool) → c ≡ true → (b || c) ≡ true
or_right true c e = refl
or_right false c e = e

pub or_neither : (b c : Bool) → (b || c) ≡ false → (b ≡ false) × (c ≡ false)
or_neither true c e = absurd (true≢false e)
or_neither false c e = (refl, e)

pub neither_or : (b c : Bool) → b ≡ false → c ≡ false → (b || c) ≡ false
neither_or true c e f = absurd (true≢false e)
neither_or false c e f = f

pub and_both : (b c : Bool) → (b && c) ≡ true → (b ≡ true) × (c ≡ true)
and_both true c e = (refl, e)
and_both false c e = absurd (false≢true e)

pub both_and : (b c : Bool) → b ≡ true → c ≡ true → (b && c) ≡ true
both_and true c e f = f
both_and false c e f = absurd (false≢true e)

pub and_false_cases : (b c : Bool) → (b && c) ≡ false → (b ≡ false) ⊎ (c ≡ false)
and_false_cases true c e = inr e
and_false_cases false c e = inl refl
