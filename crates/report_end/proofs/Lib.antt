pub mod Told
pub mod Rooms
pub mod Next
