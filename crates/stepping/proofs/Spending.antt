-- What reading a step costs, and what comes then. Assumes nothing.
use Rattle.std.proofs.Common.{ℕ, ◌≤◌, arith}
use Rattle.stepping.specs.Stepping.{Spent}

pub spent_most : (bytes codes less more r : ℕ) → less ≤ more → Spent bytes codes less r → Spent bytes codes more r
spent_most bytes codes less more r h s = record { at_least = s.at_least; at_most = omega (arith, s.at_most) }
