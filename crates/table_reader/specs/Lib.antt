pub mod TakenItems
pub mod Stores
pub mod TableReading
