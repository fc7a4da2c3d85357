mod Phases
mod Halves
pub mod Attempts
pub mod GivesUp
