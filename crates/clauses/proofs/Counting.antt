-- Laws of counting turns: what is counted together reaches what the parts reach.
use Rattle.std.proofs.Common.{ℕ, ◌+◌, ◌≤◌, inl, inr, ⊎_elim, arith}
use Rattle.clauses.specs.Counting.{Reaches, Counts}

-- What is exactly so is at least so.
pub reaches_same : (x : ℕ) → Reaches x x
reaches_same x = record { case = inl (omega arith) }

-- Less is reached, too, and by more.
pub reaches_less : (l m x y : ℕ) → l ≤ m → x ≤ y → Reaches m x → Reaches l y
reaches_less l m x y a b r =
    record { case = ⊎_elim (λ p. inl (omega (arith, a, b, p))) (λ p. inr (omega (arith, a, b, p))) r.case }

-- What the two parts reach, they reach together.
pub reaches_plus : (l m x y r : ℕ) → Reaches l x → Reaches m y → Counts x y r → Reaches (l + m) r
reaches_plus l m x y r a b c =
    record {
      case =
          ⊎_elim
          (λ p.
          ⊎_elim
          (λ q. ⊎_elim (λ s. inl (omega (arith, p, q, s))) (λ s. inr s) c.at_least.case)
          (λ q. inr (omega (arith, q, c.second)))
          b.case)
          (λ p. inr (omega (arith, p, c.first)))
          a.case;
    }
