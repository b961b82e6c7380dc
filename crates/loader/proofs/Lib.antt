pub mod Listed
pub mod Found
pub mod Reader
pub mod Answers
