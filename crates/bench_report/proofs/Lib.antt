pub mod Counts
pub mod Ends
pub mod Fitting
pub mod Items
pub mod Pages
pub mod Journals
pub mod Sizes
