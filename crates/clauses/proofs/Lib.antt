-- The laws of the crate. Callers want `Literals` and `Holding`; the others serve the proofs of the functions.
pub mod Literals
pub mod Numbers
pub mod Counting
pub mod Entries
pub mod Heads
pub mod Looking
pub mod Holding
pub mod Searching
pub mod Compacting
pub mod Plain
pub mod Parts
pub mod HintCodes
