pub mod ServedSound
pub mod ServedState
