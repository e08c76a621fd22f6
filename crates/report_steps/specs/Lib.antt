pub mod Going
pub mod Lines
pub mod Reaching
pub mod StepParts
pub mod StepRules
pub mod Taking
