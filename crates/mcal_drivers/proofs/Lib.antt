pub mod Growing
mod Hosting
mod Joining
pub mod Levels
pub mod Limits
mod Named
pub mod Resting
pub mod Sound
pub mod SoundConverters
pub mod SoundSerial
mod Sources
pub mod Stamps
mod Whole
pub mod Wordless
