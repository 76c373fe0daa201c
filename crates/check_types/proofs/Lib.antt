pub mod Packed
pub mod Rules
pub mod Readings
