pub mod Escapes
pub mod Rows
pub mod Sentences
pub mod kinds
