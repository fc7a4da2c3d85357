mod Attempts
mod Versions
mod Nodes
mod Images
mod Renewed
