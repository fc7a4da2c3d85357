pub mod Addresses
pub mod Demand1
pub mod RoundTrip
pub mod Largest
pub mod Written
pub mod ReadingOrder
pub mod ReadingOrderExample
