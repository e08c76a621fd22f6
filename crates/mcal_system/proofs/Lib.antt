mod Carried
mod Resting
mod WireTold
pub use Rattle.mcal_drivers.proofs.Limits
pub use Rattle.mcal_drivers.proofs.Sound
pub use Rattle.mcal_drivers.proofs.SoundSerial
pub use Rattle.mcal_drivers.proofs.Levels
