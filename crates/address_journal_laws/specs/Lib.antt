pub mod Journal
pub mod Laws
pub mod Damage
pub mod Example
