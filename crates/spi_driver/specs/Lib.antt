pub mod Requests
pub mod Terms
pub mod laws
