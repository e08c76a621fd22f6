pub mod Validity
pub mod Eights
