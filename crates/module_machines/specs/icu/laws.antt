pub mod Channels
pub mod Edges
