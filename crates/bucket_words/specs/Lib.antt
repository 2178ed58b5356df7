pub mod Words
pub mod Kept
