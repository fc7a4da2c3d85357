mod Digits
mod Numbers
