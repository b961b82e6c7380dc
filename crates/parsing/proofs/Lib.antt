pub mod KeyLaws
pub mod Checks
pub mod Copies
