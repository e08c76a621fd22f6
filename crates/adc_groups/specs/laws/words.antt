pub mod Cases
pub mod OrderWords
pub mod StoreOneWord
pub mod StructureParts
pub mod WindowWords
pub mod WordsChange
pub mod WordsOfModule
