pub mod Accesses
pub mod Converters
pub mod Rounds
