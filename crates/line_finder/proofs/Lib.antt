pub mod Openings
pub mod Searching
pub mod Answered
