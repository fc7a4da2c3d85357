pub mod Places
pub mod Heads
pub mod Outcomes
pub mod Tails
pub mod Answers
pub mod Views
pub mod Strict
pub mod Payloads
pub mod RoundTrip
pub mod HeadLengths
mod Shortest
mod Fits
