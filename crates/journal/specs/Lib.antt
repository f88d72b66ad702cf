pub mod Writes
pub mod Journal
pub mod Calls
pub mod StepBack
pub mod Cases
