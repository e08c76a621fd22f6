pub mod Aspects
pub mod Resting
pub mod Sizes
pub mod Touching
pub mod Whole
pub mod laws
