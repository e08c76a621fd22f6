pub mod Runs
pub mod Wires
pub mod laws
pub use Rattle.mcal_drivers.specs.Setting
pub use Rattle.mcal_drivers.specs.Shows
