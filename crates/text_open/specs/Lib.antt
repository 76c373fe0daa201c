pub mod OpenCode
pub mod ClassCode
