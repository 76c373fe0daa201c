pub mod Rows
pub mod Noting
pub mod Storing
pub mod Holding
pub mod StoredWords
