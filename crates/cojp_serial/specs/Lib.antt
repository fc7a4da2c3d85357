pub mod State
pub mod Calls
pub mod Loans
pub mod Laws
pub mod Example
