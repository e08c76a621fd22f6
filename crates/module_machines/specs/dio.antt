pub mod Checks
pub mod Machine
pub mod Requests
pub mod Table
pub mod Values
