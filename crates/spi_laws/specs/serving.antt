pub mod Serving
pub mod Terms
pub mod laws
