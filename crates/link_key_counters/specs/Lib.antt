pub mod Counters
pub mod CounterLaws
pub mod history
