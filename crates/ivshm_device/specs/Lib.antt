pub mod Crossing
pub mod Windows
pub mod Answers
pub mod Apart
