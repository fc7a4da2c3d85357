pub mod Sets
pub mod Frames
pub mod Demand1
