pub mod Runs
pub mod Changes
pub mod Within
