pub mod Source
pub mod Message
pub mod Theorems
