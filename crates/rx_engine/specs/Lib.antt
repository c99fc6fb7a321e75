pub mod Receiver
pub mod Refinement
pub mod Items
pub mod Representation
