pub mod Rows
pub mod Register
pub mod Bytes
pub mod Opening
pub mod Spans
pub mod Origins
