pub mod Channels
pub mod Expiries
pub mod Flags
