pub mod Visitor
pub mod VisitorLaws
