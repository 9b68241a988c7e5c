-- The definitions of the crate: an assignment as marks, and what one look at a clause shows.
pub mod Lent
pub mod Marks
pub mod Sight
