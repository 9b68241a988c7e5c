-- The definitions of the crate: what a verdict says in terms of rules' Judging, and what the functions promise.
pub mod Verdicts
pub mod Addition
