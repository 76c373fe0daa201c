pub mod Limits
pub mod Marks
