-- The laws of the crate, by the module of src/ whose functions they are for.
pub mod Openings
pub mod Headers
pub mod Bodies
pub mod Fillings
pub mod Greatest
pub mod Wholes
pub mod Writings
