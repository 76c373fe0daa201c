pub mod Outcome
pub mod MeasurementCode
