pub mod captures
pub mod converter
pub mod pulses
pub mod timers
pub mod units
