mod Table
pub mod Usages
