pub mod Writing
pub mod Plans
