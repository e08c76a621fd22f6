pub mod Bounds
pub mod DutyLaws
pub mod Times
