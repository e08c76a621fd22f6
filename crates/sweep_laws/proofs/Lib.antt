pub mod Fronts
pub mod Ordered
pub mod Stopping
