pub mod PinnedBanks
pub mod ReadyWords
pub mod UnitWords
