pub mod Laws
pub mod Cleared
pub mod Vals
pub mod Given
