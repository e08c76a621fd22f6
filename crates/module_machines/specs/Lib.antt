pub mod dio
pub mod gpt
pub mod icu
pub mod mcu
pub mod port
pub mod pwm
pub mod wdg
