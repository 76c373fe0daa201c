pub mod Fitting
pub mod Output
pub mod Built
pub mod Bound
