pub mod Remainder
pub mod Bytes
pub mod Holding
pub mod Dues
pub mod Recording
pub mod Steps
pub mod Shares
