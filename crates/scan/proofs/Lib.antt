pub mod Steps
pub mod Found
