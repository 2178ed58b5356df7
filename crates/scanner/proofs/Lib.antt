pub mod Classes
pub mod Bytes
pub mod Words
pub mod Numbers
pub mod Steps
pub mod Letters
