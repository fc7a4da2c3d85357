pub mod Entries
pub mod Words
pub mod RoundKeys
pub mod Rounds
pub mod Bounds
pub mod Inverse
pub mod Examples
