pub mod Proxy
pub mod Laws
