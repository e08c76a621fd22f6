pub mod Clock
pub mod ClockAccesses
pub mod Pins
pub mod Ram
pub mod SerialAccesses
pub mod Serials
pub mod WriteHistories
pub mod Watchdogs
