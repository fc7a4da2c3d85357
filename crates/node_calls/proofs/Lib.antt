mod Answers
mod Nodes
mod Keeps
mod Changed
