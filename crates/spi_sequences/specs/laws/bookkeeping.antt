pub mod MarkedState
pub mod NextChosen
pub mod PendingWritesBounds
pub mod RefinementRight
pub mod SequenceEnded
