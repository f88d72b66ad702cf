pub mod Fronts
pub mod Laws
pub mod Said
pub mod Decimals
pub mod Lowest
