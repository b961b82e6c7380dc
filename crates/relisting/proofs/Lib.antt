pub mod Head
pub mod Counting
pub mod Plans
pub mod Starts
pub mod Before
pub mod NextMonth
pub mod Sessions
