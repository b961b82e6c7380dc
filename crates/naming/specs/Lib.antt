pub mod DayFile
pub mod Parts
