pub mod Calendar
pub mod Live
