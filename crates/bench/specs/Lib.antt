pub mod Seat
pub mod Bench
pub mod Refused
pub mod Turn
pub mod Laws
