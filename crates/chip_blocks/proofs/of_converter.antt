pub mod ConverterLaws
pub mod HistoryLaws
pub mod StateLaws
