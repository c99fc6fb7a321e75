pub mod Refinement
pub mod Allocator
