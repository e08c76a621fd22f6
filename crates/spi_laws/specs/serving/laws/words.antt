pub mod AllKept
pub mod FacingWords
pub mod KeepingWords
pub mod NextWords
pub mod Positions
pub mod SidesApart
