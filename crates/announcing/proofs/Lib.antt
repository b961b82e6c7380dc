pub mod Placed
pub mod Causes
