pub mod Numbered
pub mod Quiet
pub mod Words
pub mod Outcomes
pub mod Overflows
pub mod Steps
pub mod Forms
