pub mod EscapeLaws
pub mod Steps
