pub mod CallLaws
pub mod EdgeLaws
pub mod MeasureLaws
pub mod RoomLaws
pub mod StampLaws
