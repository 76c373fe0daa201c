pub mod MeasurementLaws
pub mod WalkLaws
pub mod SeenLaws
pub mod ExprLaws
pub mod StandLaws
pub mod EndsLaws
pub mod ArgumentLaws
