pub mod MethodCode
pub mod StepsCode
