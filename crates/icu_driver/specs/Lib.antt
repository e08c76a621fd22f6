pub mod Fits
pub mod Refinement
pub mod Terms
pub mod Words
pub mod laws
