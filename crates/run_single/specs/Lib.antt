pub mod ResultCode
pub mod SingleCode
