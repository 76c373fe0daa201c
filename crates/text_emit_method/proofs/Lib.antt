pub mod HeaderLaws
pub mod BodyLaws
pub mod EndLaws
pub mod MethodLaws
