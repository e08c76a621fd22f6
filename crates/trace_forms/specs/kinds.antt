pub mod Holds
pub mod Sums
