pub mod Writing
pub mod Members
pub mod Adding
pub mod Held
pub mod Filling
