pub mod Changes
pub mod Channels
pub mod Relation
