pub mod Last
pub mod Leaves
pub mod Low
pub mod Products
