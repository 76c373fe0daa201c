pub mod Ended
pub mod Returns
pub mod Concluding
