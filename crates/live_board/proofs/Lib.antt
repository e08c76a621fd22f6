mod Counts
mod Keeping
