pub mod Groups
pub mod Padded
pub mod RoundTrip
pub mod Frames
pub mod Process
pub mod Whole
pub mod Unused
pub mod HolderWords
