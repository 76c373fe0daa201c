pub mod MainAt
pub mod Ordered
pub mod Buffer
pub mod WordLaws
pub mod Assembled
