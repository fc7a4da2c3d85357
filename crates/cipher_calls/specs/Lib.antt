pub mod Cipher
pub mod Laws
