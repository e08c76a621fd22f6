pub mod Judged
pub mod machines
