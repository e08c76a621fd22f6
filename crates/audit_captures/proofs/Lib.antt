pub mod ChannelLaws
pub mod MeasureLaws
pub mod ModuleLaws
pub mod ServeLaws
