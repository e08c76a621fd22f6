pub mod Objects
pub mod Places
pub mod Shows
pub mod Wires
pub mod Words
pub use Rattle.mcal_drivers.specs.Setting
