pub mod LabelLaws
pub mod Steps
