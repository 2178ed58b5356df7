pub mod Counting
pub mod Products
