pub mod of_captures
pub mod of_converter
pub mod of_pulses
pub mod of_timers
pub mod of_units
