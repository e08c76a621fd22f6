pub mod Below
pub mod Joining
pub mod Keeping
pub mod Rooms
