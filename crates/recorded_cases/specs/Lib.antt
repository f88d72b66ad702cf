pub mod Case
pub mod Kind
pub mod State
pub mod Verdict
