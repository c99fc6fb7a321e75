pub mod Rounds
pub mod Handshake
pub mod Polls
pub mod Frames
pub mod Sleepers
