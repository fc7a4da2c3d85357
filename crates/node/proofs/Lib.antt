mod Starts
mod Applied
