mod Laws
pub mod Turns
mod Contiguity
mod Steps
mod Counts
mod Longest
mod Whole
mod ReplayRun
pub mod Numbers
