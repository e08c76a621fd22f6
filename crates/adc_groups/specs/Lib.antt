pub mod Refinement
pub mod PendingWrites
pub mod Places
pub mod Stored
pub mod StepTerms
pub mod Terms
pub mod laws
