pub mod MethodCode
pub mod ProgramCode
