pub mod Ids
pub mod Rules
pub mod Valid
