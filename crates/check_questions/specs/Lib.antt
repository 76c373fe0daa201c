pub mod AskCode
pub mod Check
