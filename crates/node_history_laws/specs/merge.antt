pub mod Merged
pub mod Example
