pub mod FirstFaults
pub mod HasValue
pub mod Ids
pub mod Levels
pub mod Recorded
pub mod Sound
