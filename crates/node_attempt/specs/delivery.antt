pub mod Delivery
pub mod Demand1
