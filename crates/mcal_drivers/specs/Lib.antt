pub mod Drivers
pub mod Frames
pub mod Laws
pub mod Setting
pub mod Shows
