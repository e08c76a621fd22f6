pub mod Fronts
pub mod Moments
