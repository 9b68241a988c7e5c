-- The laws of the crate: turns; additions; deletions and the room that they give back; steps.
pub mod Spending
pub mod Adding
pub mod Lessening
pub mod Taking
