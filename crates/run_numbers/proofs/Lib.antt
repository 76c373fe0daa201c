pub mod Returns
pub mod Ints
