pub mod Laws
pub mod Served
