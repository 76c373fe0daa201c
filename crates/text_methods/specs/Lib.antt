pub mod RowsCode
pub mod MethodSays
pub mod IndexCode
