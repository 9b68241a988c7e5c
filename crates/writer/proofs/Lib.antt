-- The laws of the crate: of the decimal digits of a number, of texts in a slice, and of the store's clauses as texts.
pub mod Digits
pub mod Texts
pub mod Filling
pub mod Literals
pub mod Clauses
pub mod Stored
pub mod Lines
pub mod Sums
