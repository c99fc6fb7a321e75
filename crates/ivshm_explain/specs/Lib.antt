pub mod Places
pub mod Differences
pub mod DifferenceText
pub mod Verdicts
pub mod Explained
