pub mod Fills
pub mod LatchLaws
pub mod Places
pub mod PortLevels
pub mod PortPlaces
