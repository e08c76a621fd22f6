pub mod Hearings
pub mod Hosting
pub mod Joining
pub mod Lines
pub mod Marks
pub mod Origins
pub mod Product
pub mod Tellings
