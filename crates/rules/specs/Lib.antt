-- Document 01, a file for each section, in the order in which they build on one another. `Tools` is what they share.
pub mod Tools
pub mod Limits
pub mod Text
pub mod Formula
pub mod Written
pub mod Steps
pub mod Judging
pub mod Answers
