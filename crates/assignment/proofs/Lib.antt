-- The laws of the crate. Callers want `Marking`; `Looking` serves the proofs of the functions.
pub mod Lending
pub mod Marking
pub mod Looking
