pub mod Control
pub mod Spelling
