pub mod Faults
pub mod Frames
pub mod Representation
pub mod Layout
pub mod Ranges
pub mod Names
pub mod Spelling
