pub mod Forms
pub mod Charts
pub mod Fronts
