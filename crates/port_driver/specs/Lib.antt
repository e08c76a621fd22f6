pub mod Fits
pub mod Refinement
pub mod Terms
pub mod Writes
pub mod laws
