pub mod Expiries
pub mod Places
pub mod PortReads
pub mod Promised
pub mod run_laws
pub mod whole_runs
