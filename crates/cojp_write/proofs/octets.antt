pub mod Joined
pub mod Sizes
pub mod Limits
pub mod Strings
pub mod Maps
pub mod Plans
pub mod Lists
pub mod Arrays
