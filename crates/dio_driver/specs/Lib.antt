pub mod Accesses
pub mod Fits
pub mod Frames
pub mod Guest
pub mod Laws
