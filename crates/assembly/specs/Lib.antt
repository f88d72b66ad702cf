pub mod Grammar
pub mod Reader
pub mod Assemble
pub mod Theorems
