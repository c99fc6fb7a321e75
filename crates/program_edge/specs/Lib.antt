pub mod Exit
pub mod Words
pub mod Inputs
pub mod Refusals
