pub mod GroupRuns
pub mod Histories
