pub mod FlagLaws
pub mod HistoryLaws
pub mod TimerLaws
