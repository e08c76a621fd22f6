pub mod AtRestLaws
pub mod Limits
pub mod ShownLaws
pub mod SizeLaws
