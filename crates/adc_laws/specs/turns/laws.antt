pub mod services
pub mod words
