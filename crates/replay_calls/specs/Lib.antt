pub mod Replayed
pub mod Replays
pub mod Laws
