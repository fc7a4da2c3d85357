pub mod Judge
pub mod Kept
