pub mod PendingCode
pub mod RulesCode
pub mod ReadOnCode
