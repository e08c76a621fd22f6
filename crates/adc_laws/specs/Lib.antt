pub mod serving
pub mod turns
