pub mod Beds
pub mod Moves
pub mod Steps
