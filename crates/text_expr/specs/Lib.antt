pub mod PhasesCode
pub mod LevelsCode
