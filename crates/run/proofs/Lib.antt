pub mod Answering
pub mod Buffers
pub mod Faults
pub mod Demands
pub mod Exchanges
pub mod Holders
pub mod NoClick
