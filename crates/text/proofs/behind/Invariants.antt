-- `text::behind` meets its contract. The loop's invariant: every byte from the start on up to i passes. Assumes nothing.
use Rattle.std.proofs.Common.{ℕ, ◌-◌, ◌<◌, ◌≤◌, max, true, length, slice_index}
use Rattle.text.proofs.behind.Given as goal

abbrev pub invariant-loop-i : goal.invariant-loop-i
invariant-loop-i g l = (l.from ≤ l.i) × (l.i ≤ max l.from (length l.s)) × ((k : ℕ) → l.from ≤ k → k < l.i → goal.F-post g l.passes (slice_index l.s k) true)

abbrev pub decreases-loop-i : goal.decreases-loop-i
decreases-loop-i g l = length l.s - l.i
