pub mod Exchange
pub mod Harmless
pub mod Needed
