-- The definitions of the crate.
pub mod Opening
pub mod Body
pub mod Reading
pub mod Writing
