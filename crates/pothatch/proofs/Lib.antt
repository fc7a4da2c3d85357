mod Sizes
mod Names
mod Empties
mod Usages
mod Wides
