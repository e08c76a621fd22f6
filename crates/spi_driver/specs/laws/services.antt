pub mod RequestAsking
pub mod UnitBegins
pub mod UnitBounds
pub mod UnitFrames
pub mod UnitRight
pub mod UnitSteps
