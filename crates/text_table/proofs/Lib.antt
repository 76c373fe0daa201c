pub mod ByPlaces
pub mod Fitting
pub mod KeptLaws
pub mod Others
pub mod StepLaws
pub mod TableLaws
