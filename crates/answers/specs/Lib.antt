pub mod Answers
pub mod Numbers
pub mod Rooms
