pub mod Sender
pub mod Continuations
pub mod Ahead
pub mod Refinement
pub mod Publishing
pub mod Representation
