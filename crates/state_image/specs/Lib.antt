pub mod Ledger
pub mod Proxy
pub mod Laws
