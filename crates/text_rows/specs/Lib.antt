pub mod Header
pub mod NotedCode
