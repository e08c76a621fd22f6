pub mod Input
pub mod Passed
