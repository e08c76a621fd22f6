pub mod Duties
pub mod Members
pub mod Stands
