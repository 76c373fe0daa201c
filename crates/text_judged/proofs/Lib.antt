pub mod Spelling
pub mod Alike
pub mod Callees
pub mod Capped
pub mod Headers
pub mod Renamed
pub mod Kept
pub mod Stepping
