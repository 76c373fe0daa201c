pub mod Lifted
pub mod Encoded
pub mod Apart
pub mod Returns
pub mod Alone
pub mod Standing
