pub mod RefinementRight
pub mod Body
pub mod Look
pub mod Keeps
pub mod Lawful
