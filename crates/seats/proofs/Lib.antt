pub mod Checks
pub mod Parts
pub mod Stops
pub mod Turns
