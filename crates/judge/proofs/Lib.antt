-- The laws of the crate. Callers want `halvings_below` of `Hinting` and `ready_again` of `Taking`; the rest serves the proofs of
-- the functions.
pub mod Hinting
pub mod Taking
pub mod Falling
