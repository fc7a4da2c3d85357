pub mod Ledger
pub mod Laws
