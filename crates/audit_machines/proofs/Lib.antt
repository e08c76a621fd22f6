pub mod GuestLaws
pub mod Seen
pub mod Taken
pub mod Valid
