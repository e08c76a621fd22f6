pub mod Guest
pub mod Happens
pub mod Hosting
pub mod Requests
pub mod Shows
pub mod System
