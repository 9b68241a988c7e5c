-- The laws of the crate: of verdicts, of one group and all groups, and of the rules put together. They serve the proofs of the
-- functions; callers want `turns_within` of `Costs` at most.
pub mod Verdicts
pub mod Costs
pub mod Grouping
pub mod Adding
