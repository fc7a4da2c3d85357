mod Numbers
mod Zeros
mod Ends
mod Saying
pub mod Rooms
