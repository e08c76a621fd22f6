pub mod Terms
pub mod laws
