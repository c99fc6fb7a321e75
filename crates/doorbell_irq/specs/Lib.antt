pub mod Events
pub mod Peer
pub mod DeviceRules
pub mod Registers
pub mod Triggers
pub mod DeviceView
pub mod Refinement
pub mod Routes
