pub mod Events
pub mod ScanCode
pub mod FaultsCode
pub mod Standing
