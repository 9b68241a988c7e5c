-- The theorems of the crate.
pub mod Truth
pub mod Solutions
pub mod Examples
