pub mod Same
pub mod AdditionalInfo
pub mod Key
pub mod KeyLemmas
pub mod Laws
pub mod usage
pub mod set
