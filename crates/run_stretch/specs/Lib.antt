pub mod StretchCode
