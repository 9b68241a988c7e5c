-- Laws of hints as numbers. Assumes nothing.
use Rattle.std.proofs.Common.{◌≡◌, ℕ, ◌/◌, ◌%◌, eq-eqb, ne_eqb}
use Rattle.rules.specs.Steps.{look, group}
use Rattle.clauses.specs.Codes.{hint_of}

-- An even number is a clause to look at, an odd one the beginning of a group.
pub hint-even : (x : ℕ) → x % 2 ≡ 0 → hint_of x ≡ look (x / 2)
unfolding hint_of
hint-even x e = rw (eq-eqb (x % 2) 0 e, hint_of)

pub hint-odd : (x : ℕ) → (x % 2 ≡ 0 → ⊥) → hint_of x ≡ group (x / 2)
unfolding hint_of
hint-odd x n = rw (ne_eqb (x % 2) 0 n, hint_of)
