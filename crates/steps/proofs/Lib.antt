-- The laws of the crate, by what they are for: steps that are read in part; tokens as codes; the functions of src/.
pub mod Partials
pub mod Coding
pub mod Feedings
pub mod Readings
pub mod Alongs
