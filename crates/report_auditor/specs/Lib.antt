pub mod Asking
pub mod Auditing
pub mod ChipRules
pub mod Deeds
pub mod Seeing
pub mod Serving
pub use Rattle.audit_whole.specs.Whole
