pub mod AdditionalInfo
pub mod Key
pub mod Laws
