mod Moves
mod Rising
mod Reserved
mod Example
