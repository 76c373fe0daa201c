pub mod Answers
pub mod Every
pub mod TypeLaws
pub mod Finding
pub mod NameLaws
pub mod DeclarationLaws
pub mod ParameterLaws
pub mod LookupLaws
