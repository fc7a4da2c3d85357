mod Keys
mod Together
mod Strings
mod Judged
