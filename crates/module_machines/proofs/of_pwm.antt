pub mod ChangeLaws
pub mod DropLaws
pub mod StateLaws
pub mod StayLaws
pub mod WaitLaws
