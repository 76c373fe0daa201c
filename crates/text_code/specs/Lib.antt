pub mod StatementBy
pub mod OutcomeCode
pub mod KeptCode
