pub mod Comes
pub mod Deeds
pub mod Inputs
pub mod Outside
pub mod Product
pub mod Tells
