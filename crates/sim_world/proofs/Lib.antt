pub mod DrainedHistories
pub mod Turns
pub mod StoppedPlays
pub mod LoadActs
