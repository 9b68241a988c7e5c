-- The greatest number of a list, one by one. Assumes nothing.
use Rattle.std.proofs.Common.{ℕ, zero, suc, ◌+◌, ◌≤◌, ◌<◌, max, ◌≡◌, refl, List, [], ◌∷◌, ◌++◌, add-one, arith, length, take, get_or, take-suc}
use Rattle.formula.specs.Body.{greatest}

greatest_more : (xs : List ℕ) (x : ℕ) → greatest (xs ++ (x ∷ [])) ≡ max (greatest xs) x
unfolding greatest
greatest_more [] x = omega arith
greatest_more (y ∷ xs) x = omega (arith, greatest_more xs x)

pub greatest_on : (xs : List ℕ) (i top : ℕ) → i < length xs → top ≡ greatest (take i xs) → max top (get_or xs i 0) ≡ greatest (take (i + 1) xs)
greatest_on xs i top h e = rw (add-one i, take-suc xs i 0 h, greatest_more, e)

pub greatest-start : (xs : List ℕ) → 0 ≡ greatest (take 0 xs)
unfolding greatest
greatest-start xs = refl

-- Every number of the list is at most the greatest.
pub greatest_above : (xs : List ℕ) (i : ℕ) → i < length xs → get_or xs i 0 ≤ greatest xs
unfolding greatest
greatest_above [] i h = absurd (omega arith)
greatest_above (x ∷ xs) zero h = omega arith
greatest_above (x ∷ xs) (suc i) h = omega (arith, greatest_above xs i (omega arith))
