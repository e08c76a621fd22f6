pub mod HearLaws
pub mod LineMasks
pub mod Masks
pub mod TellLaws
