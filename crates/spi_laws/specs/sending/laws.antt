pub mod bookkeeping
pub mod hardware
pub mod services
