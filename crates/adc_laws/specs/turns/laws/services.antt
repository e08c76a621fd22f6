pub mod AbortRight
pub mod ClaimEndRight
pub mod KeepRight
pub mod StartRight
pub mod WriteBatchRight
