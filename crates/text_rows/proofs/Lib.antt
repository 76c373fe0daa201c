pub mod NotedLaws
pub mod ReadingLaws
pub mod HeaderLaws
