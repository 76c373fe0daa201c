pub mod BasisCode
pub mod WalkCode
