pub mod Same
pub mod Infos
pub mod Keys
pub mod Equal
