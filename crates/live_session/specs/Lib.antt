pub mod Answers
pub mod Beginnings
pub mod Pages
pub mod Steps
