pub mod Trees
pub mod Board
pub mod Recorded
