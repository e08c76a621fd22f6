pub mod AfterReset
pub mod HardwareCommutes
pub mod HardwareMoves
pub mod StableUnderHardware
