pub mod ClockLaws
pub mod SerialLaws
pub mod WriteLaws
pub mod PortLaws
pub mod HistoryLaws
pub mod BegunLaws
