pub mod Check
pub mod Opens
