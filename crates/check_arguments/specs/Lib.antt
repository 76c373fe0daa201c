pub mod LimitsCode
pub mod MarksCode
