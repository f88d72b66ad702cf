pub mod Readings
pub mod RoundTrip
pub mod Cases
pub mod Pieces
pub mod Cells
pub mod Answered
