pub mod DifferingLines
pub mod PlayedActs
pub mod HistoryContinues
pub mod RunViews
