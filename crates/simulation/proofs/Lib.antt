pub mod OneByOne
pub mod Acts
pub mod Effects
pub mod Simulation
pub mod Itself
