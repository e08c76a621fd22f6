pub mod guest
pub mod held
pub mod three
