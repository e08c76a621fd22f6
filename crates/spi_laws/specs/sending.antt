pub mod Sending
pub mod Terms
pub mod laws
