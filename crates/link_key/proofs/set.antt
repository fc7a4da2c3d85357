pub mod Lists
pub mod KeySets
mod Flags
mod InfoAllowed
