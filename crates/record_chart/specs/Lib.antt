pub mod Rows
pub mod Arrows
pub mod Laws
pub mod Pictures
pub mod Own
