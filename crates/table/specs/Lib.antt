pub mod Table
pub mod Ops
pub mod Reading
pub mod Questions
