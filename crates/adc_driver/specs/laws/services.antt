pub mod AllSteps
pub mod BeginSteps
pub mod InitActRight
pub mod InitRight
pub mod InitWords
pub mod KeepCopySteps
