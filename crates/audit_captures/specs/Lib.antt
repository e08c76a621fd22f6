pub mod Measures
pub mod Members
pub mod Stands
