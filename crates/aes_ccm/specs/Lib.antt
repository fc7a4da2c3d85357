pub mod Ccm
pub mod Plan
pub mod Laws
