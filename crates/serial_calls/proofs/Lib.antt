mod Images
mod Ending
mod Keeps
