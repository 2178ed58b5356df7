-- What the answers of the readers mean, and the laws that they rest on.
pub mod Spans
pub mod Classes
pub mod Answers
pub mod Words
pub mod Numbers
pub mod Separators
pub mod Items
pub mod Bounds
pub mod Tokens
