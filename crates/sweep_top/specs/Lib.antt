pub mod Endings
pub mod Reads
pub mod Reported
pub mod Sweeps
pub mod Wishes
