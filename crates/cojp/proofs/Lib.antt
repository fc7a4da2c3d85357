mod Examples
mod Demand1
mod Strict
pub mod Strings
pub mod Arrays
mod Addresses
pub mod Walks
mod Faults
mod Kept
mod Rates
mod Reading
pub mod Nexts
