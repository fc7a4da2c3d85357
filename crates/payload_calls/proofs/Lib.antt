mod Answers
mod Keeps
