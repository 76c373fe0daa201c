pub mod FaultsCode
pub mod FaultCode
pub mod Answer
