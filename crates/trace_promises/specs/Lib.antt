pub mod Keeping
pub mod Numbers
pub mod Viewed
pub mod audits
pub mod traces
