pub mod Alone
pub mod Buffers
pub mod Ends
pub mod Faults
