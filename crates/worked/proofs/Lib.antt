pub mod Returns
pub mod Months
pub mod Starts
pub mod Files
pub mod Relists
pub mod Worked
pub mod Instances
