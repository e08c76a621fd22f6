mod Agreeing
pub mod Asked
pub mod Beginning
pub mod Outside
pub mod Telling
pub mod Ticking
