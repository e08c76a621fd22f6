pub mod AsFreed
pub mod CarriedOut
pub mod CarriedState
pub mod HeldWord
pub mod SelectsNext
pub mod SentBeside
pub mod WordsLike
