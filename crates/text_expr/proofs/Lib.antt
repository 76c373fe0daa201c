pub mod Steps
pub mod Parts
pub mod Same
pub mod Levels
pub mod Notes
