pub mod ConfigurationFits
pub mod EitherOne
pub mod KeptWords
pub mod WordsToState
