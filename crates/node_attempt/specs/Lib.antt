pub mod Attempt
pub mod Poll
pub mod Demand1
pub mod delivery
