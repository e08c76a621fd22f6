pub mod Board
pub mod File
pub mod Laws
pub mod Settings
pub mod Signals
pub mod Spelled
pub mod Values
