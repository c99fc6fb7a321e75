pub mod Crossing
pub mod Counts
pub mod Sessions
pub mod Versions
pub mod EndStates
pub mod Sizes
pub mod Answers
pub mod Items
