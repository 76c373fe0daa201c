pub mod Tests
pub mod Gates
pub mod ByRole
pub mod Levels
pub mod Blocks
pub mod Looking
