pub mod Chip
pub mod Devices
pub mod Histories
pub mod Waiting
pub mod Wiring
pub mod Words
