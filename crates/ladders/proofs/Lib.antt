pub mod OldRows
pub mod Ladder
pub mod Ladders
pub mod Relisted
pub mod Stretches
