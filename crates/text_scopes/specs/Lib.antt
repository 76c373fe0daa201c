pub mod OpenCode
