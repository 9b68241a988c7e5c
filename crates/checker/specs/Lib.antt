-- The definitions of the crate: `Promises` is what a reader of the front door's contract has to know, beside `rules` and
-- `meaning`; the others say what the functions behind it promise.
pub mod Promises
pub mod Running
pub mod Answering
