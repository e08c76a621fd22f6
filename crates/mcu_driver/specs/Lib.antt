pub mod Fits
pub mod Refinement
pub mod Terms
pub mod laws
