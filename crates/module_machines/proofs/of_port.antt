pub mod ByNumber
pub mod GuestLaws
pub mod ModeLaws
pub mod RunLaws
