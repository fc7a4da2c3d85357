mod Ranged
mod Finding
mod Serving
mod Switching
mod Sending
