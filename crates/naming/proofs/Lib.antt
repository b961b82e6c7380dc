pub mod Climbing
pub mod Rises
pub mod Years
pub mod Sequence
pub mod NewRows
pub mod Series
