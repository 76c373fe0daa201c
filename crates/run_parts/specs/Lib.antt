pub mod PartsCode
pub mod ReadinessCode
