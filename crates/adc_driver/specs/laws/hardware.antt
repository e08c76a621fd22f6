pub mod StableUnderHardware
