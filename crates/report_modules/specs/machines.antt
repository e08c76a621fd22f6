pub mod Bench
pub mod Calls
pub mod Same
pub mod System
