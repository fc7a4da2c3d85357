pub mod Node
pub mod Range
pub mod Timing
pub mod Delivery
pub mod Lease
pub mod Frames
