pub mod MethodLaws
pub mod ProgramLaws
