pub mod Numbers
pub mod Fields
pub mod Wiring
pub mod Place
pub mod Device
pub mod Walk
