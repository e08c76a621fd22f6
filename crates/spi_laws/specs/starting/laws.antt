pub mod ToBegin
pub mod ToStart
pub mod bookkeeping
pub mod services
pub mod words
