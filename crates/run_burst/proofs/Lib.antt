pub mod Knowing
pub mod Steps
pub mod AtOnce
pub mod Returns
