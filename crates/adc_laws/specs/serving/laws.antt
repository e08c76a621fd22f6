pub mod bookkeeping
pub mod services
pub mod words
