-- The definitions of the crate.
pub mod Partials
pub mod Feeding
pub mod Reading
