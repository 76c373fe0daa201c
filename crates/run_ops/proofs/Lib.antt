pub mod Returns
pub mod Unlisted
pub mod FramesOpened
pub mod Meaning
