pub mod Tokens
pub mod Grammar
pub mod Text
pub mod Left
pub mod Enough
pub mod Equations
pub mod Examples
