pub mod Results
pub mod Rounds
pub mod Sent
