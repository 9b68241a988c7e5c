-- The laws of the crate: of what deleted clauses leave behind, of how much of a store that is, and of the run over the ids.
pub mod Leavings
pub mod Waste
pub mod Removing
