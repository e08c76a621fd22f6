pub mod Judged
pub mod Outcomes
pub mod Program
pub mod signs
