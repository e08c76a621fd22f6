pub mod FrameRule
pub mod PendingWritesRight
pub mod RefinementRight
