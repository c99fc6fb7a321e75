pub mod CaptureFile
pub mod Deliveries
pub mod Faults
pub mod Feed
pub mod Laws
pub mod Reading
