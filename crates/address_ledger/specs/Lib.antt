pub mod Ledger
pub mod Answers
pub mod range
