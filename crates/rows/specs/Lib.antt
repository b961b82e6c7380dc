pub mod Places
pub mod Telling
