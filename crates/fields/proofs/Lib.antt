pub mod Order
pub mod Digits
pub mod Arranged
pub mod Shape
pub mod Steps
pub mod Places
pub mod Laws
pub mod Examples
