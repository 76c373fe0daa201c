pub mod Steps
pub mod Blocks
pub mod SimpleLaws
pub mod CodeLaws
