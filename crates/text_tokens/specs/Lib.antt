pub mod Places
pub mod PlacesCode
pub mod KindsCode
pub mod NextCode
pub mod Numbers
