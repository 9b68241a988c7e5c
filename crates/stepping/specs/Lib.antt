-- The definitions of the crate: what taking one step comes to.
pub mod Stepping
