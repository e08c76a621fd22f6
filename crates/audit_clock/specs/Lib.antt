pub mod ClockStands
pub mod Members
pub mod PinStands
pub mod PortPins
pub mod Sections
pub mod WatchdogKept
