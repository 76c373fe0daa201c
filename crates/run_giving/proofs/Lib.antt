pub mod Laws
pub mod Parted
