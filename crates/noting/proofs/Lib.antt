pub mod Laws
pub mod Record
pub mod Kept
pub mod Runs
