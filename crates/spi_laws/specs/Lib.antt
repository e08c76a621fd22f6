pub mod sending
pub mod serving
pub mod starting
