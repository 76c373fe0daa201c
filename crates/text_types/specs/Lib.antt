pub mod Answer
pub mod SaysCode
pub mod Found
pub mod FoundCode
pub mod Every
