pub mod Grammar
pub mod Reader
