pub mod RestCode
pub mod EndsCode
pub mod PartsCode
pub mod Emitted
