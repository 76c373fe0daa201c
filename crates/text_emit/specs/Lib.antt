pub mod EmitCode
pub mod Reached
