pub mod SourceFilled
pub mod StableUnderHardware
