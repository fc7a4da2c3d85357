mod Addresses
mod Infos
mod KeySets
mod Rates
mod Configurations
mod Plans
