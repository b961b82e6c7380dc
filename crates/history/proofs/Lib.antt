pub mod Simulation
pub mod Sound
pub mod Ascend
pub mod Closing
pub mod Accepts
pub mod Written
pub mod Lasting
