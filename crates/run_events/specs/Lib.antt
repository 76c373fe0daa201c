pub mod EndsCode
pub mod ConcludeCode
