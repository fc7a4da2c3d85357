pub mod counters
pub mod merge
