pub mod Serial
pub mod Parts
pub mod Ends
pub mod Laws
