pub mod Agrees
pub mod Keeps
