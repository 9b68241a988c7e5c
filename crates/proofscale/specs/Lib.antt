-- The definitions of the crate: answers as numbers.
pub mod Numbers
