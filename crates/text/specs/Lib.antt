pub mod Tree
pub mod Meaning
pub mod Translation
pub mod Names
pub mod Limits
pub mod Statement
