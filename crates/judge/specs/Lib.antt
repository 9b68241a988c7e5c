-- The definitions of the crate: what its functions promise, in terms of rules' Judging.
pub mod Hints
pub mod Falsifying
