pub mod Audits
pub mod Blocks
pub mod Fits
pub mod Reading
pub mod Steps
