pub mod range
pub mod octets
pub mod request
pub mod configuration
