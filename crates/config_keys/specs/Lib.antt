pub mod Names
pub mod Checks
pub mod Places
pub mod Kinds
pub mod Keys
pub mod Printed
