pub mod Rows
pub mod Judged
pub mod Collect
pub mod Whole
