pub mod Tests
pub mod Numbers
pub mod Laws
pub mod Any
pub mod First
pub mod Each
pub mod Put
