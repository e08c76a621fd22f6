pub mod Starting
pub mod Terms
pub mod laws
