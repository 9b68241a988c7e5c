-- How turns are counted: up to the greatest number of 64 bits, and no further. A counter that is full stays so.
use Rattle.std.specs.Prelude.{ℕ, ◌+◌, ◌≤◌, ◌⊎◌}

-- The greatest count.
abbrev pub full : ℕ
full = 18_446_744_073_709_551_615

-- At least so many turns were counted, or the counter is full.
pub record Reaches (least turns : ℕ) : Type 0 where
  pub case : (least ≤ turns) ⊎ (full ≤ turns)

-- x turns and y turns are r turns, as far as can be counted.
pub record Counts (x y r : ℕ) : Type 0 where
  pub at_most : r ≤ x + y
  pub at_least : Reaches (x + y) r
  pub first : x ≤ r
  pub second : y ≤ r
