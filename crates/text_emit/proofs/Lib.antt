pub mod EmitLaws
pub mod SimpleLaws
pub mod PutLaws
pub mod DispatchLaws
pub mod PartLaws
