pub mod Accesses
pub mod Run
pub mod Timers
