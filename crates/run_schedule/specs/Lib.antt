pub mod BeginCode
pub mod SummaryCode
