pub mod Faults
pub mod Geometry
pub mod Laws
pub mod MayWrite
