pub mod Leases
pub mod Taken
