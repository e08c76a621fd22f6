pub mod converters
pub mod serial
pub mod timers
