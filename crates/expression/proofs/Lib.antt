pub mod Spans
pub mod Chain
pub mod Fused
pub mod Sound
pub mod Complete
pub mod Laws
pub mod Names
pub mod Tables
