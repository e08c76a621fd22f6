pub mod ChangeLaws
pub mod FlagHistory
pub mod FlagLaws
pub mod PulseLaws
