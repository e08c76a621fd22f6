pub mod CommittedWords
pub mod ControlWord
pub mod PlainFacts
pub mod StreamNumbers
