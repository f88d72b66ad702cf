pub mod Exercise
pub mod Laws
