pub mod Bounds
pub mod Checks
pub mod Classes
pub mod Machine
pub mod Numbers
pub mod Requests
pub mod Table
