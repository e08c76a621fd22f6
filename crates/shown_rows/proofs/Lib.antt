pub mod Places
pub mod Rows
pub use Rattle.mcal_drivers.proofs.Levels
pub use Rattle.mcal_drivers.proofs.Limits
pub use Rattle.mcal_drivers.proofs.SoundConverters
pub use Rattle.mcal_drivers.proofs.SoundSerial
