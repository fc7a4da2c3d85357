pub mod Blocks
pub mod Streams
pub mod Done
pub mod Opening
