pub mod First
pub mod Reports
pub mod Rows
pub mod Spelling
