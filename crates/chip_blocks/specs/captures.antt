pub mod Accesses
pub mod Captures
