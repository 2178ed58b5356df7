-- The cheapest sums of a row of one list and a row of another.
pub mod Sums
pub mod Steps
pub mod Areas
