pub mod EnteredLaws
pub mod ReadingLaws
pub mod NameLaws
pub mod DeclarationLaws
pub mod ParameterLaws
pub mod RowLaws
