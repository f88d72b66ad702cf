pub mod Listing
pub mod Call
pub mod Theorems
pub mod Names
pub mod Pieces
