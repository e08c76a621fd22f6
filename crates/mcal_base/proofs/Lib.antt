pub mod BitLaws
pub mod Counting
pub mod ExpiryLaws
pub mod Owners
pub mod Places
pub mod RowLaws
