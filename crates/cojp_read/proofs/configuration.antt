mod Configurations
mod Labels
