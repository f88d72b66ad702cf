pub mod Compare
pub mod Length
pub mod Machine
pub mod Place
pub mod Reader
