pub mod Within
pub mod Emission
pub mod Onward
pub mod Keeping
pub mod Measuring
