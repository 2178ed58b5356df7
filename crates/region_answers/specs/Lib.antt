pub mod Found
pub mod Lists
pub mod Prices
