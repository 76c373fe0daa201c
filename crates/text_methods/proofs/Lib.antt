pub mod Tests
pub mod Ending
pub mod Counted
pub mod Finding
pub mod Found
pub mod Slices
pub mod Looking
pub mod Indexing
