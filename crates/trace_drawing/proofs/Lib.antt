pub mod Balance
pub mod Judging
pub mod Known
pub mod Marks
pub mod MomentLaws
pub mod MoreSigns
pub mod Parts
pub mod Shows
