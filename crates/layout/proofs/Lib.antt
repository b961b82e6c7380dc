pub mod RowLaws
pub mod ByteLaws
pub mod OpeningLaws
pub mod SpanLaws
pub mod Held
pub mod Running
pub mod Chunks
