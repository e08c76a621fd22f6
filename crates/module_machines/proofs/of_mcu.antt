pub mod RunLaws
pub mod StateLaws
