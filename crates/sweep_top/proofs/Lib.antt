pub mod Calling
pub mod Concluding
pub mod Ended
pub mod Printing
pub mod Reading
pub mod Running
pub mod Watched
pub mod Wishing
