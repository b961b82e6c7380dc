pub mod Running
pub mod JournalLaws
pub mod Outcomes
