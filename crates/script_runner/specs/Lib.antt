pub mod AlongRun
pub mod Busy
pub mod Runs
pub mod Scripts
pub mod Standing
pub mod laws
