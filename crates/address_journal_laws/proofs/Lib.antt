pub mod Remainder
pub mod Entries
pub mod Walk
pub mod Prefixes
pub mod Cuts
pub mod Fixtures
pub mod Damaged
pub mod Examples
