mod Bytes
pub mod Lent
