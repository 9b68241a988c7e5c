-- The laws of the crate: the run over the steps; the formula in the store and its marks; the promises of the front door.
pub mod Runs
pub mod Clearing
pub mod Storing
pub mod Answering
pub mod Promising
