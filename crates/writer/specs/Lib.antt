-- The definitions that the contracts of the writer cite, beside those of `rules` and `clauses`.
pub mod Text
