pub mod logic
pub mod lists
