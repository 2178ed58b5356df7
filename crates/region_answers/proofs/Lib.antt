pub mod Prices
pub mod Areas
pub mod Lists
