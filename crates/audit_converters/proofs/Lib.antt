pub mod Levels
pub mod Lines
pub mod Places
pub mod Reading
pub mod Stored
pub mod Terms
pub mod Walks
pub mod Whole
