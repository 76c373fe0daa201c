pub mod Entered
pub mod EnterCode
pub mod EntryAnswer
