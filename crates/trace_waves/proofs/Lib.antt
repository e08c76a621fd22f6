pub mod ChangeLaws
pub mod Groups
pub mod Setting
pub mod Steps
