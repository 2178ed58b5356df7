-- What the lines of a file say, and the laws that their parsers rest on.
pub mod Answers
pub mod Lines
pub mod Forms
