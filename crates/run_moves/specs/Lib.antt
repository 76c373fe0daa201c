pub mod MovesCode
