pub mod BegunWords
pub mod EndedRound
pub mod ListedInputs
