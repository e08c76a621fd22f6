pub mod Counts
pub mod Least
pub mod Giving
