pub mod Body
pub mod Issued
pub mod Keys
pub mod Issuing
pub mod Judging
pub mod History
pub mod Laws
pub mod Example
