-- Laws of numbers that the proofs of this crate share. Assumes nothing.
use Rattle.std.proofs.Common.{ℕ, ◌<◌, ◌≤◌, ltb, ◌⊎◌, inl, inr, ltb-false, ltb-true}
use Rattle.meaning.proofs.Truth.{bool_cases}

-- A number is below another or not.
pub cut : (a b : ℕ) → (a < b) ⊎ (b ≤ a)
cut a b = bool_cases (ltb a b) (λ y. inl (ltb-true a b y)) (λ n. inr (ltb-false a b n))
