pub mod RowsCode
pub mod JudgeCode
pub mod ResumeCode
