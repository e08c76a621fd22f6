pub mod Board
pub mod Generated
