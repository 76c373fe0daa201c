pub mod LimitsCode
pub mod MeasuresCode
