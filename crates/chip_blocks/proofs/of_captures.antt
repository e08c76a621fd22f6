pub mod CaptureLaws
pub mod QueueLaws
