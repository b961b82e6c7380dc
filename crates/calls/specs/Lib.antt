pub mod Calls
pub mod Listing
pub mod Results
pub mod Answers
pub mod RowsCall
