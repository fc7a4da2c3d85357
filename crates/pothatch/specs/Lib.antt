pub mod Library
pub mod Wide
pub mod Usage
pub mod Laws
