pub mod EndNumbers
pub mod ReadsCode
pub mod PartnerCode
pub mod PairingCode
pub mod EndingCode
