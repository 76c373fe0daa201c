pub mod Answers
pub mod Dropped
