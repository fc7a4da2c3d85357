mod Answers
mod Ledgers
mod Keeps
