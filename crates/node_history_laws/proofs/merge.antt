mod Applied
mod Exactly
mod Delivered
mod Example
