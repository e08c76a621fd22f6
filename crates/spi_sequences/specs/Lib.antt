pub mod Going
pub mod Refinement
pub mod PendingWrites
pub mod StepTerms
pub mod Terms
pub mod Words
pub mod laws
