pub mod Accesses
pub mod Pulses
pub mod Regime
