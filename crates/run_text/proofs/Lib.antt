pub mod TextLaws
pub mod TextDemands
