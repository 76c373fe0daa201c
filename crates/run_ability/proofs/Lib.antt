pub mod Returns
pub mod Scans
pub mod Able
pub mod Idle
