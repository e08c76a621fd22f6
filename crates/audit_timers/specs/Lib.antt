pub mod Members
pub mod Stands
