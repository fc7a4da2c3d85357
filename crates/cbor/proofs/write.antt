mod Heads
mod Strings
