pub mod OnChip
pub mod Parts
