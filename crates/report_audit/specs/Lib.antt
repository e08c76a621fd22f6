pub mod Directives
pub mod Judged
pub mod Obeying
pub use Rattle.report_auditor.specs.Whole
