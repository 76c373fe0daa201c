pub mod TableCode
pub mod Measures
