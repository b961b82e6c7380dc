pub mod Kept
pub mod Well
pub mod Waiting
pub mod Refusals
pub mod Opens
