pub mod Frames
pub mod LevelLaws
pub mod BranchLaws
pub mod StatementsLaws
pub mod BlockLaws
pub mod ClearLaws
