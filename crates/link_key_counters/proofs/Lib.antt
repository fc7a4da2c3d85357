mod Slots
mod Places
mod Counted
