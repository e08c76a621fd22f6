pub mod JobEnd
pub mod JobsApart
pub mod Readable
