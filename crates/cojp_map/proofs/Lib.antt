pub mod Maps
pub mod Parameters
