pub mod Copying
pub mod Rounds
pub mod Stream
