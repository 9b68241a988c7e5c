-- The definitions of the crate: literals as numbers, how turns are counted, the store of live clauses, and what its functions promise.
pub mod Codes
pub mod Counting
pub mod Store
pub mod Finding
pub mod Moving
