pub mod Driver
pub mod Kept
pub mod Lifts
pub mod Stands
pub mod Union
pub mod UnionLaws
pub mod Whose
