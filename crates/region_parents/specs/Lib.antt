pub mod Neighbours
pub mod Making
