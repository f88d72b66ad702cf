pub mod Table
pub mod Forms
pub mod Damaged
pub mod Code
