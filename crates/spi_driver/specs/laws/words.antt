pub mod ConfigurationFits
pub mod WordsToState
