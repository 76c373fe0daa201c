pub mod Trace
pub mod ReadCode
