pub mod SizeTests
pub mod FormsAreTable
pub mod RowTests
pub mod RowsOfActs
pub mod PositionInvariant
pub mod ReadIsSpelled
pub mod SpelledIsRead
pub mod PrintedParts
