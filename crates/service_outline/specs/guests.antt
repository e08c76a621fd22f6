pub mod Frames
pub mod Guest
pub mod GuestLaws
pub mod LetsLaws
pub mod OutlineLaws
