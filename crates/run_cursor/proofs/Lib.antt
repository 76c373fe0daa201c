pub mod Laid
pub mod Shapes
pub mod Topmost
pub mod Arms
