-- The laws of the crate. Callers use `Tokens`; the proofs of this crate's functions use `Places`.
pub mod Places
pub mod Numbers
pub mod Wordings
pub mod Tokens
pub mod Bytes
pub mod Shorts
