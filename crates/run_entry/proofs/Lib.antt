pub mod Returns
pub mod Forked
pub mod Exchanged
pub mod Paired
pub mod Meets
pub mod Stepped
pub mod Beside
