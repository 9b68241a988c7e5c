-- The definitions that the contracts of the crate cite, beside those of `rules` and `clauses`.
pub mod Deleting
