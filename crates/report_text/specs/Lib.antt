pub mod Taken
pub mod Unread
pub mod reading
