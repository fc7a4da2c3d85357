pub mod Infos
pub mod Groups
pub mod KeySets
