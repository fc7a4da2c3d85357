pub mod Turn
pub mod Network
pub mod Rekey
pub mod Playing
pub mod Line
pub mod Counters
