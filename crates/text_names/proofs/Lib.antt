pub mod Lowest
pub mod Merged
pub mod Passes
pub mod Calls
pub mod Scanning
pub mod Refused
