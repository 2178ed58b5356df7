-- Rows that lie in an area of numbers.
pub mod Rows
pub mod Laws
pub mod Steps
