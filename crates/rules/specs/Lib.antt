pub mod Rules
pub mod Rulebook
pub mod FirstMonths
