pub mod Fits
pub mod Refinement
pub mod Words
pub mod laws
