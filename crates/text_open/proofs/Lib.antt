pub mod OpenLaws
pub mod Classes
