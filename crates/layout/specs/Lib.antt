pub mod Layout
pub mod Holders
pub mod Places
