pub mod FoundCode
