pub mod Returns
pub mod Here
pub mod Singly
