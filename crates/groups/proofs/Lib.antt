-- The laws of the crate: of the groups in a list of hints, of a literal among those of a clause, and of the walk over the store.
-- Callers want `Hints`, which says what the codes between two groups are to document 01.
pub mod Hints
pub mod Among
pub mod Walking
