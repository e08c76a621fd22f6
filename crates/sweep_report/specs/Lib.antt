pub mod Json
pub mod Page
pub mod Place
pub mod Table
