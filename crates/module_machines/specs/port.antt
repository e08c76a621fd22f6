pub mod Bounds
pub mod Checks
pub mod Classes
pub mod Machine
pub mod Requests
pub mod Runs
pub mod Shown
pub mod Table
