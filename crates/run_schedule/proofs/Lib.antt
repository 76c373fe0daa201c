pub mod Modest
pub mod Ready
pub mod Taking
pub mod Bursting
pub mod Began
pub mod Accepting
pub mod Resting
pub mod Turning
