pub mod StartAround
pub mod StartRight
pub mod StartWords
