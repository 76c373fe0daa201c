pub mod Opened
pub mod Ops
pub mod Accepted
pub mod Owners
pub mod Slots
pub mod Methods
pub mod Before
pub mod Start
