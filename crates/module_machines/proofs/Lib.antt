pub mod of_icu
pub mod of_mcu
pub mod of_port
pub mod of_pwm
