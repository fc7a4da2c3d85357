pub mod Lists
pub mod KeySet
pub mod Seen
pub mod KeyLaws
