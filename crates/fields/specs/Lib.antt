pub mod Fields
pub mod Arranged
pub mod Reading
pub mod Places
