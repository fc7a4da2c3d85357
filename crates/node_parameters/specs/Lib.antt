pub mod Lease
pub mod Octets
pub mod Dispositions
pub mod Blacklist
pub mod Rate
pub mod Demand1
