pub mod Laws
pub mod Parts
pub mod Loop
pub mod OneRun
